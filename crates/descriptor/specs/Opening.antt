-- Opening a descriptor.
--   Verdict           what opening comes to: refused with nothing altered; spoiled, with zeros where the text would stand; opened
--   concluded ..      what the suite's answer comes to
--   text_opening ..   what opening sealed bytes comes to, under a head and a vector
--   frame_opening ..  what opening the descriptor of a frame comes to; refused before the suite opens, in this order: the triple is not
--                     served (Suite NotServed), the frame ends after the list does (Layout Length), its parts do not fit (Layout Parts)
--   opening ..        the same for a descriptor at a place of the list
--   answer, data_after, work_after   the answer, the data buffer and the work area after opening
use Rattle.std.specs.Prelude.{ℕ, ◌-◌, cond, List, ◌++◌, length, Some, None, Ok, Err, Option, Result, nat_lt}
use Rattle.std.specs.List.{between}
use Rattle.octets.specs.Octets.{over, wiped, zeros}
use Rattle.layout.specs.Frame.{framed, parted}
use Rattle.layout.specs.declared.Fault.{Fault as LayoutFault}
use Rattle.layout.specs.declared.Fault.TheVariants.{Length}
use Rattle.layout.specs.declared.Frame.{Frame}
use Rattle.layout.specs.declared.Parts.{Parts}
use Rattle.layout.specs.declared.Span.{Span}
use Rattle.suite.specs.Meaning.{Meaning}
use Rattle.suite.specs.Meaning as suite
use Rattle.suite.specs.declared.Fault.{Fault as SuiteFault}
use Rattle.suite.specs.declared.Fault.TheVariants.{NotServed, Size, Mismatch}
use Rattle.suite.specs.declared.Sizes.{Sizes}
use Rattle.descriptor.specs.Text.{given_to, data_of}
use Rattle.descriptor.specs.declared.fault.Fault.{Fault}
use Rattle.descriptor.specs.declared.fault.Fault.TheVariants.{Layout, Suite, Padding}
use Rattle.descriptor.specs.declared.opening.Opened.{Opened}
use Rattle.descriptor.specs.declared.protection.Protection.{Protection}

-- e is the length of the protected part
pub data Verdict : Type 0 where
  refused : Fault → Verdict
  spoiled : Fault → ℕ → Verdict
  opened : List ℕ → ℕ → Verdict

-- the data of the text, or its padding is wrong
abbrev pub unpadding : Option (List ℕ) → ℕ → Verdict
unpadding (Some xs) e = opened xs e
unpadding None e = spoiled Padding e

-- what the suite's answer comes to
abbrev pub concluded : Sizes → ℕ → Result (List ℕ) SuiteFault → Verdict
concluded z e (Ok text) = unpadding (data_of z text) e
concluded z e (Err NotServed) = refused (Suite NotServed)
concluded z e (Err Size) = refused (Suite Size)
concluded z e (Err Mismatch) = spoiled (Suite Mismatch) e

abbrev pub text_opening : Meaning → Protection → Sizes → List ℕ → List ℕ → List ℕ → List ℕ → List ℕ → Verdict
text_opening m p z head vector y buffer work =
    concluded z (length y - z.check) (suite.opening m p.triple (given_to p head vector) y buffer work)

module _ (m : Meaning) (p : Protection) (list buffer work : List ℕ) where
  -- the head is SAI and SQN as they stand in the list; the check value stands at the end of what is sealed
  abbrev pub parts_opening : Sizes → Frame → Result Parts LayoutFault → Verdict
  parts_opening z f (Err fault) = refused (Layout fault)
  parts_opening z f (Ok at) =
      concluded z (at.check - at.protected)
      (suite.opening m p.triple (given_to p (between f.head at.vector list) (between at.vector at.protected list))
      (between at.protected at.end list) buffer work)

  abbrev pub frame_opening_by : Option Sizes → Frame → Verdict
  frame_opening_by None f = refused (Suite NotServed)
  frame_opening_by (Some z) f =
      cond (nat_lt (length list) f.end) (refused (Layout Length))
      (parts_opening z f (parted f z.vector z.check z.unit z.encrypts))

  abbrev pub frame_opening : Frame → Verdict
  frame_opening f = frame_opening_by (m.serves p.triple) f

  abbrev pub opening_at : Result Frame LayoutFault → Verdict
  opening_at (Err fault) = refused (Layout fault)
  opening_at (Ok f) = frame_opening f

  abbrev pub opening : ℕ → Span → Verdict
  opening place span = opening_at (framed list place span)

abbrev pub answer : Verdict → Result ℕ Fault
answer (refused f) = Err f
answer (spoiled f e) = Err f
answer (opened xs e) = Ok (length xs)

-- the data, then zeros up to e bytes, then old bytes; zeros alone where it was spoiled
abbrev pub data_after : Verdict → List ℕ → List ℕ
data_after (refused f) buffer = buffer
data_after (spoiled f e) buffer = wiped e buffer
data_after (opened xs e) buffer = over (xs ++ zeros (e - length xs)) buffer

abbrev pub work_after : Verdict → List ℕ → List ℕ
work_after (refused f) work = work
work_after (spoiled f e) work = wiped 240 work
work_after (opened xs e) work = wiped 240 work

-- SAI and SQN beside the data's length
abbrev pub with_label : Result Frame LayoutFault → Result ℕ Fault → Result Opened Fault
with_label (Err fault) r = Err (Layout fault)
with_label (Ok f) (Err fault) = Err fault
with_label (Ok f) (Ok n) = Ok (record { sai = f.sai; sqn = f.sqn; length = n })
