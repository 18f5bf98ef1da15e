-- Full lengths are counted up to 2^32, so that no sum or product of them passes 64 bits.
use Rattle.std.specs.Prelude.{ℕ, ◌+◌, ◌-◌, ◌*◌, ◌≤◌, ◌<◌, ◌^◌, min, Bool, true, false, ◌||◌, cond, List, ◌≡◌, refl, eqb, length, get_or}
use Rattle.std.proofs.Common.{ap, arith, mul-le-mul, lt-ltb, le-ltb}
use Rattle.std.proofs.lemmas.Bool.{eqb-false}
use Rattle.model.specs.declared.Header.{Header}
use Rattle.model.specs.declared.Family.{Family}
use Rattle.model_recipes.specs.declared.Step.{Step}
use Rattle.model_recipes.specs.Steps.{step_of}
use Rattle.model_recipes.specs.Recipe.{family_of}
use Rattle.model_texts.specs.Trace.{step_word}
use Rattle.model_texts.specs.Full.{many, counted, full_after, full_at, step_full}
use Rattle.model_texts.specs.Whole.{needs_first, needs_second, leaves_out, first_next}
use Rattle.report_trace.specs.Traced.{past}

pub or-false : (x y : Bool) → (x || y) ≡ false → (x ≡ false) × (y ≡ false)
or-false false y e = (refl, e)
or-false true y e = (e, absurd (no e))
  where
    no : true ≡ false → ⊥
    no e = let z : ◌≡◌ {A = ℕ} 0 1 = ap (λ (b : Bool). cond b 0 1) e in omega (arith, z)

-- a length that is not without end
pub some : (a : ℕ) → eqb a 0 ≡ false → 1 ≤ a
some a e = let n = eqb-false a 0 e in omega (arith, n)

-- two of them
pub both_some : (a b : ℕ) → (eqb a 0 || eqb b 0) ≡ false → (1 ≤ a) × (1 ≤ b)
both_some a b e = let h = or-false (eqb a 0) (eqb b 0) e in (some a h.0, some b h.1)

-- and three
pub all-some : (a b d : ℕ) → (eqb a 0 || (eqb b 0 || eqb d 0)) ≡ false → (1 ≤ a) × ((1 ≤ b) × (1 ≤ d))
all-some a b d e = let h = or-false (eqb a 0) (eqb b 0 || eqb d 0) e in (some a h.0, both_some b d h.1)

-- the rows that powers add
pub rows_fit : (p b : ℕ) → p ≤ many → b ≤ many → (p - 1) * (b - 1) ≤ (2 ^ 32 - 1) * (2 ^ 32 - 1)
rows_fit p b hp hb =
    let x : p - 1 ≤ 2 ^ 32 - 1 = omega arith in
    let y : b - 1 ≤ 2 ^ 32 - 1 = omega arith in
    mul-le-mul x y

pub power-fits : (e a : ℕ) → e < 2 ^ 32 → a ≤ many → e * (a - 1) ≤ (2 ^ 32 - 1) * (2 ^ 32 - 1)
power-fits e a he ha =
    let x : e ≤ 2 ^ 32 - 1 = omega arith in
    let y : a - 1 ≤ 2 ^ 32 - 1 = omega arith in
    mul-le-mul x y

-- what is read
pub full-most : (fs : List ℕ) (x v : ℕ) → full_at fs x v ≤ many
full-most fs x v = omega arith

pub full-past : (fs : List ℕ) (x v : ℕ) → length fs ≤ 4 * x + v → 1 ≡ full_at fs x v
full-past fs x v h = let e : 1 ≡ get_or fs (4 * x + v) 1 = past fs (4 * x + v) 1 h in ap counted e

-- ---- a step's, as the code works it out

pub step_is : (fs : List ℕ) (w v : ℕ) {s : Step} {f : Family} {p a b r : ℕ} → s ≡ step_of w → p ≡ full_at fs s.a s.variable
    → a ≡ full_at fs s.a v → b ≡ full_at fs s.b v → f ≡ family_of 0 s → r ≡ full_after f v p a b → r ≡ step_full fs w v
unfolding step_full
step_is fs w v es ep ea eb ef er = simp (er, ef, eb, ea, ep, es)

module _ (known : List Header) (ss : List ℕ) (inputs : ℕ) (fs ls : List ℕ) where
  pub first-input : length ls < inputs → 64 ≡ first_next known ss inputs fs ls
  unfolding first_next
  first-input h = rw (lt-ltb (length ls) inputs h)

  pub first-is : inputs ≤ length ls → {w : ℕ} {s : Step} {f g : Family} {n o x a y b r t : ℕ} {d i j : Bool}
      → w ≡ step_word ss inputs (length ls) → s ≡ step_of w → n ≡ full_at fs s.a s.variable
      → d ≡ leaves_out known fs (length ls) → o ≡ cond d (length ls) 64
      → f ≡ family_of 0 s → i ≡ needs_first f → x ≡ get_or ls s.a 64 → a ≡ cond i x 64
      → g ≡ family_of 0 s → j ≡ needs_second g n → y ≡ get_or ls s.b 64 → b ≡ cond j y 64
      → t ≡ min a b → r ≡ min o t → r ≡ first_next known ss inputs fs ls
  unfolding first_next
  first-is h ew es en ed eo ef ei ex ea eg ej ey eb et er =
      rw (le-ltb (length ls) inputs h) (simp (er, et, eb, ey, ej, eg, ea, ex, ei, ef, eo, ed, en, es, ew))
