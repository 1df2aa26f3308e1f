-- Digests of FIPS 180-4: the bytes of a message's hash value.
--   sha256 message   the SHA-256 digest of a message, 32 bytes
--   sha1 message     the SHA-1 digest of a message, 20 bytes
use Rattle.std.specs.Prelude.{ℕ, List}
use Rattle.chaining.specs.Chaining.{hashed}
use Rattle.chaining.specs.Words.{word_bytes}
use Rattle.sha.specs.Sha1 as one
use Rattle.sha.specs.Sha256.{initial, compressed}

abbrev pub sha256 : List ℕ → List ℕ
sha256 message = word_bytes (hashed compressed initial message)

abbrev pub sha1 : List ℕ → List ℕ
sha1 message = word_bytes (hashed one.compressed one.initial message)
