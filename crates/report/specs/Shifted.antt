-- Of a sheet that is not refused: the limit of a shift is its operand's, less n. So what is said of a limit that shifts
-- have lowered is so: the limit of the place named is the limit and all that they took off it, and the step named is
-- one of them.
use Prim.Native.Nat.{ℕ, zero, suc, ◌+◌, ◌-◌, ◌≤◌, ◌<◌, max}
use Rattle.std.specs.Prelude.{true, ◌≡◌, refl, leb, ltb, eqb, take}
use mathlib.Core.List.{List}
use Rattle.std.proofs.Common.{sym, ◌∙◌}
use Rattle.std.proofs.Math.Path.{ap}
use native.Mathlib.Omega.{arith}
use Rattle.std.proofs.Math.ListN.{length, get_or, length-map}
use Rattle.std.proofs.Math.Seq.{get_or-take}
use borrow.Author.Tests.{leb-true, eqb-true, eq-eqb}
use Rattle.lists.specs.Chain.{chain, chain-take}
use Rattle.lists.specs.Four.{at, four, at-four}
use Rattle.lists.specs.Test.{and_left, and_right}
use Rattle.model.specs.declared.Header.{Header}
use Rattle.model.specs.declared.Family.{Family}
use Rattle.model.specs.declared.Family.TheVariants.{Constant, Shift}
use Rattle.model.specs.Header.{no_header, limit}
use Rattle.model.specs.Word.{header_of}
use Rattle.model.specs.Announced.{limit_after, single, announced}
use Rattle.model_recipes.specs.declared.Step.{Step}
use Rattle.model_recipes.specs.Steps.{step_of}
use Rattle.model_recipes.specs.Recipe.{Recipe, up_to, families, family_of, head_at, announced_step, input_heads, announced_places}
use Rattle.model_recipes.specs.Check.{lowers, check_refusal}
use Rattle.model_recipes.specs.Reasons.{Shifts}
use Rattle.model_texts.specs.Sheet.{input_count, step_count, sheet_steps, sheet_recipe, sheet_refusal}
use Rattle.model_texts.specs.Trace.{step_word, shifts_in, lowering, limit_at, decider, lowerer}
use Rattle.recipes_laws.specs.Ahead.{announced-at}
use Rattle.sheet_solving.specs.Opened.{headers-many, steps-many}
use Rattle.report_trace.specs.Laws.{Operand, first}
use Rattle.report_trace.specs.Ends.{Ordered, shift-uses}
use Rattle.report_trace.specs.Lowered.{Lowers, shift, less_on, decider-limit, lowerer-lowers}
use Rattle.report.specs.Traces.{check-ordered, shift-below, check-none, sheet-ordered, few}

-- the three shifts announce as such
shift-family : (ed : ℕ) (s : Step) (k : ℕ) → 7 ≤ k → k ≤ 9 → get_or (families ed s) k Constant ≡ Shift s.variable s.n
unfolding families
shift-family ed s (suc (suc (suc (suc (suc (suc (suc zero))))))) a b = refl
shift-family ed s (suc (suc (suc (suc (suc (suc (suc (suc zero)))))))) a b = refl
shift-family ed s (suc (suc (suc (suc (suc (suc (suc (suc (suc zero))))))))) a b = refl
shift-family ed s (suc (suc (suc (suc (suc (suc (suc (suc (suc (suc k)))))))))) a b = absurd (omega arith)
shift-family ed s zero a b = absurd (omega arith)
shift-family ed s (suc zero) a b = absurd (omega arith)
shift-family ed s (suc (suc zero)) a b = absurd (omega arith)
shift-family ed s (suc (suc (suc zero))) a b = absurd (omega arith)
shift-family ed s (suc (suc (suc (suc zero)))) a b = absurd (omega arith)
shift-family ed s (suc (suc (suc (suc (suc zero))))) a b = absurd (omega arith)
shift-family ed s (suc (suc (suc (suc (suc (suc zero)))))) a b = absurd (omega arith)

shift-limit : (v n : ℕ) (h b : Header) → v < 4 → n < limit h v → limit h v ≡ limit (announced (Shift v n) h b) v + n
unfolding announced single
shift-limit v n h b k l =
    let e : at (four (λ j. limit_after (Shift v n) j (limit h j))) v ≡ limit_after (Shift v n) v (limit h v) =
    at-four (λ j. limit_after (Shift v n) j (limit h j)) v k in
    rw (e, eq-eqb v v refl) (omega arith)

module _ (it : Recipe) (z : (check_refusal it).number ≡ 0) where
  -- what the places before a step announce, they announce in the end too
  known_early : (i x : ℕ) → i < length it.steps → x < length it.headers + i
      → head_at (announced_places (up_to it i)) x ≡ head_at (announced_places it) x
  unfolding announced_places
  known_early i x l h =
      let e : length (input_heads it.headers) ≡ length it.headers = length-map it.headers header_of in
      ap (λ (k : List Header). head_at k x) (sym (chain-take (announced_step it.edition) (input_heads it.headers) it.steps i (omega arith)))
      ∙ get_or-take (length (input_heads it.headers) + i) (chain (announced_step it.edition) (input_heads it.headers) it.steps) x no_header
      (omega (arith, e))

  -- and its limit is its operand's, less n
  step-lowers : (v i : ℕ) → v < 4 → i < length it.steps → shifts_in v (get_or it.steps i 0) ≡ true
      → limit_at (announced_places it) v (step_of (get_or it.steps i 0)).a
      ≡ limit_at (announced_places it) v (length it.headers + i) + (step_of (get_or it.steps i 0)).n
  unfolding shifts_in announced_step
  step-lowers v i k l y =
      let w : ℕ = get_or it.steps i 0 in
      let before = announced_places (up_to it i) in
      let kind = and_left (lowers (step_of w)) (eqb (step_of w).variable v) y in
      let s : Shifts w =
      record {
        from = leb-true 7 _ (and_left (leb 7 (step_of w).kind) (leb (step_of w).kind 9) kind);
        to = leb-true _ 9 (and_right (leb 7 (step_of w).kind) (leb (step_of w).kind 9) kind);
      } in
      let e : (step_of w).variable ≡ v = eqb-true _ _ (and_right (lowers (step_of w)) (eqb (step_of w).variable v) y) in
      let place : length it.headers + i - length it.headers ≡ i = omega arith in
      let o : Operand (step_word it.steps (length it.headers) (length it.headers + i)) (step_of w).a =
      rw place (first (shift-uses v w y) refl) in
      let a : head_at before (step_of w).a ≡ head_at (announced_places it) (step_of w).a =
      known_early i (step_of w).a l ((check-ordered it z).before (length it.headers + i) (step_of w).a (omega arith) (omega arith) o) in
      let n : ℕ = (step_of w).n in
      let b : Header = head_at before (step_of w).b in
      let f : family_of it.edition (step_of w) ≡ Shift v n =
      shift-family it.edition (step_of w) (step_of w).kind s.from s.to ∙ ap (λ (x : ℕ). Shift x n) e in
      let h : head_at (announced_places it) (length it.headers + i) ≡ announced (Shift v n) (head_at before (step_of w).a) b =
      announced-at it i l ∙ ap (λ (x : Family). announced x (head_at before (step_of w).a) b) f in
      let under : n < limit (head_at before (step_of w).a) v = rw e at (shift-below it z i l s) in
      ap (λ (x : Header). limit x v) (sym a)
      ∙ (shift-limit v n (head_at before (step_of w).a) b k under ∙ ap (λ (x : Header). limit x v + n) (sym h))

  pub check-lowers : (v : ℕ) → v < 4 → Lowers (announced_places it) v it.steps (length it.headers) (length it.headers + length it.steps)
  check-lowers v k =
      record {
        by = λ p a l z.
            let e : length it.headers + (p - length it.headers) ≡ p = omega arith in
            rw e at (step-lowers v (p - length it.headers) k (omega arith) z);
      }

module _ (t : List ℕ) (z : (sheet_refusal t).number ≡ 0) (v p : ℕ) (k : v < 4) (l : p < input_count t + step_count t) where
  abbrev known : List Header
  known = announced_places (sheet_recipe t)

  sheet-lowers : Lowers known v (sheet_steps t) (input_count t) (input_count t + step_count t)
  unfolding sheet_recipe
  sheet-lowers = rw (headers-many t, steps-many t) at (check-lowers (sheet_recipe t) (check-none t z) v k)

  -- the limit of the place named is the limit and all that shifts took off it on the way
  pub sheet-source : limit_at known v (decider known v (sheet_steps t) (input_count t) p)
      ≡ limit_at known v p + less_on known v (sheet_steps t) (input_count t) 64 p
  sheet-source = decider-limit known v (sheet_steps t) (input_count t) (sheet-ordered t z) sheet-lowers p l

  -- where there is one, the step named lowers the limit, by no more than that
  pub sheet-lowerer : limit_at known v p < limit_at known v (decider known v (sheet_steps t) (input_count t) p)
      → (lowering v (sheet_steps t) (input_count t) (lowerer known v (sheet_steps t) (input_count t) p) ≡ true)
      × (limit_at known v p + shift known v (sheet_steps t) (input_count t) (lowerer known v (sheet_steps t) (input_count t) p)
      ≤ limit_at known v (decider known v (sheet_steps t) (input_count t) p))
  sheet-lowerer h =
      let r = lowerer-lowers known v (sheet_steps t) (input_count t) p (omega (arith, h, sheet-source)) in
      (r.0, omega (arith, r.1, sheet-source))
