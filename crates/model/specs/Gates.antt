-- REFERENCE 5.3. Document 01, 'Refusal numbers', one gate for each way of calling: numbers go in (header words, lengths
-- of buffers, variables), a refusal comes out.
-- The tests stand in the order of their numbers, so the lowest wins; of two operands the first is asked first. Tests 3
-- and 4 read the number of variables and the limits alone.
use Rattle.std.specs.Prelude.{ℕ, suc, List, Bool, ◌&&◌, ◌||◌, leb, ltb, eqb, Float}
use Rattle.std.specs.Float.Ieee.{lt}
use Rattle.std.specs.Float.Ieee.Scale.{finite}
use Rattle.lists.specs.Four.{at, four}
use Rattle.model.specs.declared.Header.{Header}
use Rattle.model.specs.declared.Refusal.{Refusal}
use Rattle.model.specs.declared.Family.{Family}
use Rattle.model.specs.Header.{limit, stored, no_header, zero_with, var_with}
use Rattle.model.specs.Faults.{fault, is_sound, good_limit, limits_fault}
use Rattle.model.specs.Word.{header_of, fault_of, good_word}
use Rattle.model.specs.Places.{inside}
use Rattle.model.specs.Announced.{announced}
use Rattle.model.specs.Refusals.{ask_for, ask, refused_for, no_refusal, fits, roomy, zero_f}

-- what a family announces for one operand, and for two
abbrev pub announced_one : Family → ℕ → Header
announced_one f w = announced f (header_of w) no_header

abbrev pub announced_pair : Family → ℕ → ℕ → Header
announced_pair f w u = announced f (header_of w) (header_of u)

-- test 1: the refusal of a header word that breaks the rules, p its place in a recipe, 64 in a single call
abbrev pub bad_word : ℕ → ℕ → Refusal
bad_word w p = refused_for (fault_of w) p

abbrev pub ask_word : ℕ → Refusal → Refusal
ask_word w next = ask_for (good_word w) (bad_word w 64) next

-- test 2: m coefficients are lent
abbrev pub full : ℕ → ℕ → Bool
full w m = leb (stored (header_of w)) m

-- A number read off a polynomial: w its header word, m its coefficients.
unfoldable pub read_gate : ℕ → ℕ → Refusal
read_gate w m = ask_word w (ask (full w m) 2 no_refusal)

-- `coefficient` at the index i: 3 for a missing variable's index that is not 0, 4 for one not below its limit
abbrev pub no_missing : Header → List ℕ → Bool
no_missing h i =
    (((ltb 0 h.vars || eqb (at i 0) 0) && (ltb 1 h.vars || eqb (at i 1) 0)) && (ltb 2 h.vars || eqb (at i 2) 0))
    && (ltb 3 h.vars || eqb (at i 3) 0)

unfoldable pub index_gate : ℕ → ℕ → List ℕ → Refusal
index_gate w m i =
    ask_word w
    (ask (full w m) 2
    (ask (no_missing (header_of w) i) 3
    (ask (inside (header_of w).limits i) 4
    no_refusal)))

-- A number read off a polynomial of one variable: 3 for any other number of variables.
unfoldable pub sole_gate : ℕ → ℕ → Refusal
sole_gate w m =
    ask_word w
    (ask (full w m) 2
    (ask (eqb (header_of w).vars 1) 3
    no_refusal))

-- what a tail is a part of is finite and above zero
unfoldable pub good_total : Float → Bool
good_total total = finite total && lt zero_f total

-- `tail` at k: 4 for a k not below the limit, then for the total (document 02, W1)
unfoldable pub tail_gate : ℕ → ℕ → ℕ → Float → Refusal
tail_gate w m k total =
    ask_word w
    (ask (full w m) 2
    (ask (eqb (header_of w).vars 1) 3
    (ask (ltb k (limit (header_of w) 0)) 4
    (ask (good_total total) 4
    no_refusal))))

-- One operand and no scratch: n the places lent for the result.
unfoldable pub one_gate : Family → ℕ → ℕ → ℕ → Refusal
one_gate f w m n =
    ask_word w
    (ask (full w m) 2
    (ask (fits (announced_one f w) n) 5
    no_refusal))

-- One operand: n the places lent for the result, s those of the scratch.
unfoldable pub work_gate : Family → ℕ → ℕ → ℕ → ℕ → Refusal
work_gate f w m n s =
    ask_word w
    (ask (full w m) 2
    (ask (fits (announced_one f w) n) 5
    (ask (roomy (announced_one f w) s) 6
    no_refusal)))

-- One operand, a variable v and a number d below its limit, no scratch.
unfoldable pub in_gate : Family → ℕ → ℕ → ℕ → ℕ → ℕ → Refusal
in_gate f v d w m n =
    ask_word w
    (ask (full w m) 2
    (ask (ltb v (header_of w).vars) 3
    (ask (ltb d (limit (header_of w) v)) 4
    (ask (fits (announced_one f w) n) 5
    no_refusal))))

-- Two operands: n the places lent for the result, s those of the scratch.
unfoldable pub pair_gate : Family → ℕ → ℕ → ℕ → ℕ → ℕ → ℕ → Refusal
pair_gate f w m u l n s =
    ask_word w
    (ask_word u
    (ask (full w m) 2
    (ask (full u l) 2
    (ask (fits (announced_pair f w u) n) 5
    (ask (roomy (announced_pair f w u) s) 6
    no_refusal)))))

-- Constructors.

-- test 1: the limits given
abbrev pub good_limits : ℕ → List ℕ → Bool
good_limits vars l = is_sound (limits_fault vars l)

abbrev pub ask_limits : ℕ → List ℕ → Refusal → Refusal
ask_limits vars l next = ask_for (good_limits vars l) (refused_for (limits_fault vars l) 64) next

-- n the places lent for the coefficients
unfoldable pub with_gate : ℕ → List ℕ → ℕ → Refusal
with_gate vars l n = ask_limits vars l (ask (fits (zero_with vars l) n) 5 no_refusal)

unfoldable pub var_with_gate : ℕ → ℕ → List ℕ → ℕ → Refusal
var_with_gate v vars l n =
    ask_limits vars l
    (ask (ltb v vars) 3
    (ask (fits (var_with v vars l) n) 5
    no_refusal))

-- `var` and `var_at_zero` give every variable up to v the limit asked: a wrong one is wrong of variable 0 first
abbrev pub var_header : ℕ → ℕ → Header
var_header v l = var_with v (suc v) (four (λ k. l))

unfoldable pub var_gate : ℕ → ℕ → ℕ → Refusal
var_gate v l n =
    ask_for (good_limit l) (refused_for (fault 0 6) 64)
    (ask (leb v 3) 3
    (ask (fits (var_header v l) n) 5
    no_refusal))
