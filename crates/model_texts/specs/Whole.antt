-- REFERENCE 9.3. Whole: taking every input as the polynomial that it stores, no step that the answer is made of left a
-- term out. A place leaves terms out where a full length passes its limit. From words alone; fs are the full lengths of
-- all places.
use Rattle.std.specs.Prelude.{ℕ, min, Bool, true, false, ◌&&◌, ◌||◌, not, cond, List, [], leb, ltb, eqb, length, get_or}
use Rattle.lists.specs.Grow.{grow}
use Rattle.model.specs.declared.Header.{Header}
use Rattle.model.specs.declared.Family.{Family}
use Rattle.model.specs.declared.Family.TheVariants.{Constant, Same, Sum, Product, Quotient, Series, Power, Shift, Substitution, Term, Order, One}
use Rattle.model_recipes.specs.Steps.{step_of}
use Rattle.model_recipes.specs.Recipe.{family_of}
use Rattle.model_texts.specs.Trace.{step_word, has, limit_at}
use Rattle.model_texts.specs.Full.{endless, full_at}

-- what a step is made of: its operands, but nothing of a power of 0; and what is put for a variable only where the
-- polynomial has more than one row there (p, its full length in that variable)

unfoldable pub needs_first : Family → Bool
needs_first Constant = false
needs_first (Power e) = not (eqb e 0)
needs_first Same = true
needs_first Sum = true
needs_first Product = true
needs_first Quotient = true
needs_first Series = true
needs_first (Shift v n) = true
needs_first (Substitution v) = true
needs_first (Term v) = true
needs_first (Order v n) = true
needs_first One = false

unfoldable pub needs_second : Family → ℕ → Bool
needs_second Sum p = true
needs_second Product p = true
needs_second Quotient p = true
needs_second (Substitution v) p = not (eqb p 1)
needs_second Constant p = false
needs_second Same p = false
needs_second Series p = false
needs_second (Power e) p = false
needs_second (Shift v n) p = false
needs_second (Term v) p = false
needs_second (Order v n) p = false
needs_second One p = false

module _ (known : List Header) (fs : List ℕ) where
  -- the full length of the place p passes its limit in the variable v
  unfoldable pub passes : ℕ → ℕ → Bool
  passes p v = has known v p && (endless (full_at fs p v) || ltb (limit_at known v p) (full_at fs p v))

  -- in some variable
  unfoldable pub leaves_out : ℕ → Bool
  leaves_out p = (passes p 0 || passes p 1) || (passes p 2 || passes p 3)

module _ (known : List Header) (ss : List ℕ) (inputs : ℕ) (fs : List ℕ) where
  -- the first place that leaves terms out, of the next place and all that it is made of, 64 for none; ls: those of the
  -- places before it
  unfoldable pub first_next : List ℕ → ℕ
  first_next ls =
      let p = length ls in
      let s = step_of (step_word ss inputs p) in
      let f = family_of 0 s in
      cond (ltb p inputs) 64
      (min (cond (leaves_out known fs p) p 64)
      (min (cond (needs_first f) (get_or ls s.a 64) 64)
      (cond (needs_second f (full_at fs s.a s.variable)) (get_or ls s.b 64) 64)))

  unfoldable pub firsts : ℕ → List ℕ
  firsts n = grow n first_next []

  abbrev pub first_out : ℕ → ℕ
  first_out p = first_next (firsts p)

  -- the place p is whole
  unfoldable pub is_whole : ℕ → Bool
  is_whole p = leb 64 (first_out p)
