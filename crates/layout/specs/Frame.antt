-- An arriving descriptor in its list: how far it reaches, its SAI and SQN, and where its parts are.
--   number_at k list at      the number of k bytes at a place of the list
--   reach list place span    how many bytes the descriptor at place has: as DESCRIPTOR LENGTH says, or as given with the call
--   sqn_end span             how many bytes it has up to the end of its SQN
--   frame_tests ..           refusals, in this order:
--                              Cut     fewer bytes than that are left in the list from place on
--                              Length  the descriptor ends before its SQN does, or after the list does
--   frame_at ..              its form, the place of its SAI, where it ends, SAI and SQN
--   framed ..                that frame, or the first refusal that fits
--   Within list frame        the frame lies in the list
--   protected_length ..      the bytes between a vector of s bytes and a check value of c bytes
--   part_tests ..            refusals, all by the name of Parts:
--                              fewer than s + c bytes follow SQN
--                              the protected part is no multiple of the unit u; a unit of 0 is taken as 1
--                              the protected part is empty with encryption
--   parts_at frame s c       the places in the list where vector, protected part and check value begin, and where the last ends
--   parted ..                those places, or the first refusal that fits
--   InARow frame s c places  the parts follow each other from SQN to the descriptor's end
use Rattle.std.specs.Prelude.{◌≡◌, ℕ, ◌+◌, ◌-◌, ◌%◌, ◌≤◌, max, Bool, not, ◌&&◌, ◌||◌, List, [], ◌∷◌, length, take, drop, Result, ◌==◌, nat_lt}
use Rattle.octets.specs.Numbers.{number}
use Rattle.layout.specs.declared.fault.Fault.{Fault}
use Rattle.layout.specs.declared.fault.Fault.TheVariants.{Cut, Length, Parts}
use Rattle.layout.specs.declared.form.Span.{Span}
use Rattle.layout.specs.declared.form.Span.TheVariants.{Long, Short}
use Rattle.layout.specs.declared.frame.Frame.{Frame}
use Rattle.layout.specs.declared.frame.Parts.{Parts as Places}
use Rattle.layout.specs.Layout.{form_of, lead}
use Rattle.layout.specs.Refusals.{Test, first_fit, judged}

abbrev pub number_at : ℕ → List ℕ → ℕ → ℕ
number_at k list at = number (take k (drop at list))

abbrev pub reach : List ℕ → ℕ → Span → ℕ
reach list place Long = 2 + number_at 2 list place
reach list place (Short len) = len

abbrev pub sqn_end : Span → ℕ
sqn_end span = lead (form_of span) + 12

abbrev pub frame_tests : List ℕ → ℕ → Span → List (Test Fault)
frame_tests list place span =
    record { fits = nat_lt (length list) (place + sqn_end span); fault = Cut }
    ∷ record { fits = nat_lt (reach list place span) (sqn_end span) || nat_lt (length list) (place + reach list place span); fault = Length }
    ∷ []

abbrev pub frame_at : List ℕ → ℕ → Span → Frame
frame_at list place span =
    record {
      form = form_of span;
      head = place + lead (form_of span);
      end = place + reach list place span;
      sai = number_at 4 list (place + lead (form_of span));
      sqn = number_at 8 list (place + lead (form_of span) + 4);
    }

abbrev pub framed : List ℕ → ℕ → Span → Result Frame Fault
framed list place span = judged (first_fit (frame_tests list place span)) (frame_at list place span)

pub record Within (list : List ℕ) (frame : Frame) : Type 0 where
  pub sqn_before_end : frame.head + 12 ≤ frame.end
  pub end_in_list : frame.end ≤ length list

abbrev pub protected_length : Frame → ℕ → ℕ → ℕ
protected_length frame s c = frame.end - (frame.head + 12 + s + c)

abbrev pub part_tests : Frame → ℕ → ℕ → ℕ → Bool → List (Test Fault)
part_tests frame s c u encrypts =
    record { fits = nat_lt frame.end (frame.head + 12 + s + c); fault = Parts }
    ∷ record { fits = not (protected_length frame s c % max u 1 == 0); fault = Parts }
    ∷ record { fits = encrypts && (protected_length frame s c == 0); fault = Parts }
    ∷ []

abbrev pub parts_at : Frame → ℕ → ℕ → Places
parts_at frame s c =
    record {
      vector = frame.head + 12;
      protected = frame.head + 12 + s;
      check = frame.end - c;
      end = frame.end;
    }

abbrev pub parted : Frame → ℕ → ℕ → ℕ → Bool → Result Places Fault
parted frame s c u encrypts = judged (first_fit (part_tests frame s c u encrypts)) (parts_at frame s c)

pub record InARow (frame : Frame) (s c : ℕ) (places : Places) : Type 0 where
  pub vector_after_sqn : places.vector ≡ frame.head + 12
  pub protected_after_vector : places.protected ≡ places.vector + s
  pub check_after_protected : places.protected ≤ places.check
  pub check_to_end : places.check + c ≡ places.end
  pub end_of_frame : places.end ≡ frame.end
