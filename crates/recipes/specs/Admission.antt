-- Why a run is refused before its first step, and what an admitted run shows at its end.
use Rattle.std.specs.Prelude.{ℕ, suc, ◌+◌, ◌-◌, ◌*◌, ◌≤◌, ◌<◌, true, false, ◌&&◌, List, [], ◌∷◌, ◌++◌, ◌≡◌, refl, leb, length, get_or, take, drop, Float}
use Rattle.std.proofs.Common.{sym, ap, ◌∙◌, arith, length-drop, drop_at, length-take-le}
use Rattle.std.proofs.lemmas.List.{length-map}
use borrow.Author.Tests.{le-leb, lt-leb}
use Rattle.lists.specs.Grow.{over}
use Rattle.lists.specs.Part.{part}
use Rattle.model.specs.declared.Header.{Header}
use Rattle.model.specs.declared.Refusal.{Refusal}
use Rattle.model.specs.Word.{header_of}
use Rattle.model.specs.Refusals.{refused_by, no_refusal, zeros, cleared}
use Rattle.model_recipes.specs.Recipe.{Recipe, input_heads, announced_places, announced_steps, total, largest}
use Rattle.model_recipes.specs.Check.{or_else, check_refusal}
use Rattle.model_recipes.specs.Run.{zero_pool, lent_refusal}
use Rattle.shape_words.specs.Lengths.{lengths_of_lem, count_most}
use Rattle.recipes_kinds.specs.Known.{Known}
use Rattle.recipes_check.specs.Asks.{or-first, or-next}
use Rattle.recipes_check.specs.Judging.{heads}
use Rattle.recipes_check.specs.Judged.{Judged, accepts}
use Rattle.recipes_check.specs.Answered.{Passed, passed}
use Rattle.recipes_laws.specs.Ahead.{length-announced}
use Rattle.recipes.specs.Standing.{Placing}
use Rattle.recipes.specs.Running.{Admitted}

-- c, p, w and s the lengths of coefficients, pool, words and scratch
pub record Admits (it : Recipe) (c p w s : ℕ) (old new : List ℕ) (r : Refusal) : Type 0 where
  pub answer : r ≡ or_else (check_refusal it) (lent_refusal it c p w s)
  pub len : length new ≡ length old
  pub noted : r.number ≡ 0 → heads (length it.headers + length it.steps) new ≡ announced_places it

module _ (it : Recipe) (c p w s : ℕ) {old new : List ℕ} {r : Refusal} (j : Judged it old new r) where
  pub admit-check : (r.number ≡ 0 → ⊥) → Admits it c p w s old new r
  admit-check n = record { answer = sym (rw (← j.answer) (or-first {r = r} (lent_refusal it c p w s) n)); len = j.len; noted = j.noted }

  module _ (z : r.number ≡ 0) where
    past-check : or_else (check_refusal it) (lent_refusal it c p w s) ≡ lent_refusal it c p w s
    past-check = or-next (check_refusal it) (lent_refusal it c p w s) (ap (λ (x : Refusal). x.number) (sym j.answer) ∙ z)

    lent : {q : Refusal} → q ≡ lent_refusal it c p w s → Admits it c p w s old new q
    lent e = record { answer = e ∙ sym past-check; len = j.len; noted = λ y. j.noted z }

    module _ {a : ℕ} (ea : a ≡ total (input_heads it.headers)) where
      pub admit_2 : c < a → Admits it c p w s old new (refused_by 2)
      unfolding lent_refusal
      admit_2 l = lent (rw (← ea) (simp (lt-leb _ _ l)))

      module _ (la : a ≤ c) {b : ℕ} (eb : b ≡ total (announced_steps it)) where
        pub admit_5 : (leb b p && leb (length it.steps) w) ≡ false → Admits it c p w s old new (refused_by 5)
        unfolding lent_refusal
        admit_5 l = lent (rw (← ea, ← eb) (simp (le-leb _ _ la, l)))

        module _ (lb : (leb b p && leb (length it.steps) w) ≡ true) {m : ℕ} (em : m ≡ largest (announced_steps it)) where
          pub admit_6 : s < 8 * m → Admits it c p w s old new (refused_by 6)
          unfolding lent_refusal
          admit_6 l = lent (rw (← ea, ← eb, ← em) (simp (le-leb _ _ la, lb, lt-leb _ _ l)))

          pub admit-none : 8 * m ≤ s → Admits it c p w s old new no_refusal
          unfolding lent_refusal
          admit-none l = lent (rw (← ea, ← eb, ← em) (simp (le-leb _ _ la, lb, le-leb _ _ l)))

-- no announced count is large
pub largest-most : (known : List Header) → Known known → largest known ≤ 16777216
unfolding largest
largest-most [] g = omega arith
largest-most (h ∷ known) g = omega (arith, count_most (lengths_of_lem (g.at 0).rules), largest-most known (record { at = λ p. g.at (suc p) }))

-- ---- a run that is admitted

module _ {it : Recipe} {cs : List Float} {known : List ℕ} {mp ms : ℕ} (g : Admitted it cs known mp ms) where
  pub run-passed : Passed it known
  run-passed = let j : Judged it known known (check_refusal it) = record { answer = refl; len = refl; noted = λ z. g.noted } in passed j g.none

  pub run-some : 1 ≤ length it.steps
  run-some = (accepts it g.none).sizes.some

  -- where the last value begins
  pub last-start : {starts : List ℕ} → Placing (input_heads it.headers) (announced_steps it) starts
      → get_or starts (length it.headers + length it.steps - 1) 0 ≡ total (take (length it.steps - 1) (announced_steps it))
  last-start {starts} p =
      let e : length it.headers + length it.steps - 1 ≡ length (input_heads it.headers) + (length it.steps - 1) =
      omega (arith, length-map it.headers header_of, run-some) in
      ap (λ (x : ℕ). get_or starts x 0) e ∙ p.steps (length it.steps - 1) (omega (arith, length-announced it, run-some))

  -- it needs no more scratch than the largest count asks for
  pub admitted_exactly : {m : ℕ} → m ≡ 8 * largest (announced_steps it) → Admitted it cs known mp m
  admitted_exactly e = record { none = g.none; full = g.full; pool = g.pool; room = omega (arith, e); noted = g.noted; many = g.many }

-- the words of the steps, then what was there
pub words_end : (k n : ℕ) (known ws words : List ℕ) {new : List ℕ} → take n (drop k known) ≡ ws → k + n ≤ length known
    → new ≡ over (part k (k + n) known) words → new ≡ ws ++ drop n words
words_end k n known ws words e l f =
    let m : k + n - k ≡ n = omega arith in
    let p : part k (k + n) known ≡ ws = ap (λ (z : ℕ). take z (drop k known)) m ∙ e in
    let len : length ws ≡ n = ap length (sym e) ∙ length-take-le n (drop k known) (omega (arith, length-drop k known)) in
    f ∙ rw (p, len)

-- a pool that was written to in its first n places, and then cleared there
pub pool_end : {m : ℕ} (n : ℕ) (old used : List Float) {new : List Float} → m ≡ n → drop n used ≡ drop n old
    → new ≡ zero_pool m used → new ≡ zero_pool n old
pool_end n old used e d f = f ∙ rw (e, d)

-- the scratch was used, and then cleared
pub scratch_end : {m : ℕ} (n : ℕ) (old used : List Float) {front : List Float} {k : ℕ} → m ≡ 8 * n → length used ≡ m
    → front ≡ zeros k → k ≡ m → front ++ drop m (used ++ drop m old) ≡ cleared n old
unfolding cleared
scratch_end {m} n old used e l f j = rw (f, j, drop_at used (drop m old) m l, e)
