-- REFERENCE 5.5. Document 02, W5: what is wrong with a header word, or with the limits that a constructor is given: a
-- variable, 4 for none, and a cause. Of a header the first in this order is told: 1 number of variables; then for each
-- variable in turn 2 length above limit, where the header has it, or 3 a field that is not zero, where it is missing;
-- 4 spare bits, or a cap that is too large (W10); 5 count. 6 is a constructor's: 4 for too many limits, tested first,
-- else the first wrong limit.
use Rattle.std.specs.Prelude.{ℕ, List, Bool, true, false, ◌&&◌, ◌||◌, cond, leb, ltb, eqb}
use Rattle.lists.specs.Four.{at}
use Rattle.model.specs.declared.Header.{Header}
use Rattle.model.specs.declared.Fault.{Fault}
use Rattle.model.specs.Cap.{most_cap}
use Rattle.model.specs.Header.{limit, len, stored}

abbrev pub fault : ℕ → ℕ → Fault
fault v c = record { variable = v; cause = c }

abbrev pub no_fault : Fault
no_fault = fault 0 0

abbrev pub is_sound : Fault → Bool
is_sound f = eqb f.cause 0

-- a chain of these, in the order of the tests: what follows where the test holds, else the fault
abbrev pub unless : Bool → Fault → Fault → Fault
unless true f next = next
unless false f next = f

-- variable k: a length up to its limit; where it is missing, fields of zero, which are a limit and a length of 1
unfoldable pub sound_var : Header → ℕ → Bool
sound_var h k = cond (ltb k h.vars) (leb (len h k) (limit h k)) (eqb (limit h k) 1 && eqb (len h k) 1)

abbrev pub var_fault : Header → ℕ → Fault
var_fault h k = fault k (cond (ltb k h.vars) 2 3)

-- no spare bits, and a cap that a header may have
abbrev pub sound_end : Header → ℕ → Bool
sound_end h s = eqb s 0 && leb h.cap most_cap

-- h what the fields of a word say, s what its spare bits hold
unfoldable pub header_fault : Header → ℕ → Fault
header_fault h s =
    unless (leb h.vars 4) (fault 4 1)
    (unless (sound_var h 0) (var_fault h 0)
    (unless (sound_var h 1) (var_fault h 1)
    (unless (sound_var h 2) (var_fault h 2)
    (unless (sound_var h 3) (var_fault h 3)
    (unless (sound_end h s) (fault 4 4)
    (unless (leb (stored h) 4096) (fault 4 5)
    no_fault))))))

-- Constructors. A limit is 1 to 64; the first `vars` of four are given.

abbrev pub good_limit : ℕ → Bool
good_limit l = leb 1 l && leb l 64

-- limit k, where it is given
abbrev pub sound_limit : ℕ → List ℕ → ℕ → Bool
sound_limit vars l k = leb vars k || good_limit (at l k)

unfoldable pub limits_fault : ℕ → List ℕ → Fault
limits_fault vars l =
    unless (leb vars 4) (fault 4 6)
    (unless (sound_limit vars l 0) (fault 0 6)
    (unless (sound_limit vars l 1) (fault 1 6)
    (unless (sound_limit vars l 2) (fault 2 6)
    (unless (sound_limit vars l 3) (fault 3 6)
    no_fault))))
