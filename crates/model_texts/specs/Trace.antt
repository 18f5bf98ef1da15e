-- REFERENCE 9.4. Which place decides a limit, and where a limit falls ('every limit, shown before any figure'). `known`
-- are the headers that all places announce, ss the step words; the first `inputs` places are inputs. An operand counts
-- where the step's kind uses it, whether or not its value is needed, and where it has the variable.
use Rattle.std.specs.Prelude.{ℕ, ◌-◌, Bool, ◌&&◌, ◌||◌, not, cond, List, [], leb, ltb, eqb, length, get_or}
use Rattle.lists.specs.Grow.{grow}
use Rattle.lists.specs.Walk.{walk}
use Rattle.model.specs.declared.Header.{Header}
use Rattle.model_recipes.specs.declared.Step.{Step}
use Rattle.model_recipes.specs.declared.Uses.{Uses}
use Rattle.model.specs.Header.{limit}
use Rattle.model_recipes.specs.Steps.{step_of, uses_of}
use Rattle.model_recipes.specs.Recipe.{head_at}
use Rattle.model_recipes.specs.Check.{lowers}

abbrev pub uses_in : ℕ → Uses
uses_in w = uses_of (step_of w).kind

-- the step word of the place p
abbrev pub step_word : List ℕ → ℕ → ℕ → ℕ
step_word ss inputs p = get_or ss (p - inputs) 0

-- the step w is a shift in the variable v: its limit is its operand's, less n
unfoldable pub shifts_in : ℕ → ℕ → Bool
shifts_in v w = lowers (step_of w) && eqb (step_of w).variable v

-- the place p is a shift that lowers the limit of the variable v
unfoldable pub lowering : ℕ → List ℕ → ℕ → ℕ → Bool
lowering v ss inputs p = let w = step_word ss inputs p in not (ltb p inputs) && (shifts_in v w && ltb 0 (step_of w).n)

module _ (known : List Header) (v : ℕ) where
  -- whether a place has the variable v, and its limit there
  abbrev pub has : ℕ → Bool
  has p = ltb v (head_at known p).vars

  abbrev pub limit_at : ℕ → ℕ
  limit_at p = limit (head_at known p) v

  -- the operand x counts, and the place p ends before it
  abbrev pub cut_from : ℕ → Bool → ℕ → Bool
  cut_from p used x = (used && has x) && ltb (limit_at p) (limit_at x)

  -- the limit of the place p, whose step word is w, is below that of an operand, and not by a shift
  unfoldable pub is_cut : ℕ → ℕ → Bool
  is_cut w p = (has p && not (shifts_in v w)) && (cut_from p (uses_in w).a (step_of w).a || cut_from p (uses_in w).b (step_of w).b)

  -- the operand that it is cut from
  unfoldable pub cut_operand : ℕ → ℕ → ℕ
  cut_operand w p = cond (cut_from p (uses_in w).a (step_of w).a) (step_of w).a (step_of w).b

  -- the operand x counts and has the limit of the place p
  abbrev pub equals : ℕ → Bool → ℕ → Bool
  equals p used x = (used && has x) && eqb (limit_at x) (limit_at p)

  -- of two places the one that goes further, the first where they go equally far; the first only where it counts
  abbrev pub farther : Bool → ℕ → ℕ → ℕ
  farther counts x y = cond (counts && leb (limit_at y) (limit_at x)) x y

  module _ (ss : List ℕ) (inputs : ℕ) where
    -- one step back from the place p: to what a shift lowered, or to an operand with the same limit, if there is one
    unfoldable pub follow : ℕ → ℕ
    follow p =
        let w = step_word ss inputs p in
        cond (ltb p inputs) p
        (cond (shifts_in v w || equals p (uses_in w).a (step_of w).a) (step_of w).a
        (cond (equals p (uses_in w).b (step_of w).b) (step_of w).b
        p))

    -- the place that decides the limit of the place p: back as far as it goes, at most over all places
    unfoldable pub decider : ℕ → ℕ
    decider p = walk (λ k. follow) 64 0 p

    -- the nearest shift that lowers the limit on the way back from the place p, where there is one
    abbrev pub seek : ℕ → ℕ
    seek p = cond (lowering v ss inputs p) p (follow p)

    unfoldable pub lowerer : ℕ → ℕ
    lowerer p = walk (λ k. seek) 64 0 p

    -- of all that the next place is made from, itself included, the place that goes furthest, as far back as it can be
    -- traced; fs: those of the places before it
    unfoldable pub furthest_next : List ℕ → ℕ
    furthest_next fs =
        let p = length fs in
        let w = step_word ss inputs p in
        let u = uses_in w in
        let s = step_of w in
        cond (ltb p inputs) p
        (farther ((has p && u.a) && has s.a) (get_or fs s.a 0)
        (farther ((has p && u.b) && has s.b) (get_or fs s.b 0) p))

    -- of the first n places
    unfoldable pub furthests : ℕ → List ℕ
    furthests n = grow n furthest_next []

    abbrev pub furthest : ℕ → ℕ
    furthest p = furthest_next (furthests p)
