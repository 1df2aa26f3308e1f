-- A SHA-256 digest has 32 bytes, a SHA-1 digest 20.
use Rattle.std.proofs.Common.{◌≡◌, ℕ, ◌*◌, List, length, refl, ap, ◌∙◌}
use Rattle.chaining.specs.Chaining.{Compression, hashed}
use Rattle.chaining.specs.Words.{word_bytes}
use Rattle.chaining.specs.Chained.{length-concluded}
use Rattle.chaining.specs.WordBytes.{length-word_bytes}
use Rattle.sha.specs.Digests.{sha1, sha256}
use Rattle.sha.specs.Sha1 as one
use Rattle.sha.specs.Sha256 as two

-- four bytes for each word of the hash value
length-digest : (f : Compression) (v : List ℕ) (count : ℕ) → ((u block : List ℕ) → length (f u block) ≡ count) → length v ≡ count → (message : List ℕ) → length (word_bytes (hashed f v message)) ≡ 4 * count
length-digest f v count turned start message =
    length-word_bytes (hashed f v message) ∙ ap (λ k. 4 * k) (length-concluded f count 0 v message turned start)

five_words : (v block : List ℕ) → length (one.compressed v block) ≡ 5
unfolding one.compressed
five_words v block = refl

eight_words : (v block : List ℕ) → length (two.compressed v block) ≡ 8
unfolding two.compressed
eight_words v block = refl

pub length-sha256 : (message : List ℕ) → length (sha256 message) ≡ 32
length-sha256 = length-digest two.compressed two.initial 8 eight_words refl

pub length-sha1 : (message : List ℕ) → length (sha1 message) ≡ 20
length-sha1 = length-digest one.compressed one.initial 5 five_words refl
