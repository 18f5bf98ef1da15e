-- How a run ends, by the refusal before its first step and by its stop, and what its answer says of them.
use Rattle.std.specs.Prelude.{Ok, Err, ℕ, ◌≡◌}
use Rattle.std.proofs.Common.{ap, ◌∙◌, arith}
use borrow.Author.Tests.{eq-eqb, ne_eqb}
use Rattle.model.specs.declared.Refusal.{Refusal}
use Rattle.model_recipes.specs.Check.{or_else}
use Rattle.model_recipes.specs.Run.{RunEnd, refused, stopped, done, end_by, end_answer}
use Rattle.recipes_check.specs.Asks.{or-first, or-next, by-refusal}

module _ (r s : Refusal) where
  pub end_refused : (r.number ≡ 0 → ⊥) → end_by r s ≡ refused r
  unfolding end_by
  end_refused n = rw (ne_eqb r.number 0 n)

  pub end-stopped : r.number ≡ 0 → (s.number ≡ 0 → ⊥) → end_by r s ≡ stopped s
  unfolding end_by
  end-stopped z n = rw (eq-eqb r.number 0 z, ne_eqb s.number 0 n)

  pub end-done : r.number ≡ 0 → s.number ≡ 0 → end_by r s ≡ done
  unfolding end_by
  end-done z y = rw (eq-eqb r.number 0 z, eq-eqb s.number 0 y)

  -- ---- what an answer says

  is_some : {p q : Refusal} → p ≡ q → (p.number ≡ 0 → ⊥) → q.number ≡ 0 → ⊥
  is_some e n y = n (ap (λ (x : Refusal). x.number) e ∙ y)

  -- the first of the two
  pub answer-refused : {q : Refusal} → Err q ≡ end_answer (end_by r s) → (or_else r s ≡ q) × (q.number ≡ 0 → ⊥)
  answer-refused {q} e =
      by-refusal r
      (λ z. by-refusal s
      (λ y. let f : Err q ≡ (Ok tt) = rw (end-done z y) at e in let g : ◌≡◌ {A = ℕ} 0 1 = cc in absurd (omega (arith, g)))
      (λ n. let f : Err q ≡ Err s = rw (end-stopped z n) at e in let g : s ≡ q = cc in (or-next r s z ∙ g, is_some g n)))
      (λ n. let f : Err q ≡ Err r = rw (end_refused n) at e in let g : r ≡ q = cc in (or-first {r = r} s n ∙ g, is_some g n))

  pub answer-done : (Ok tt) ≡ end_answer (end_by r s) → (r.number ≡ 0) × (s.number ≡ 0)
  answer-done e =
      by-refusal r
      (λ z. by-refusal s (λ y. (z, y))
      (λ n. let f : (Ok tt) ≡ Err s = rw (end-stopped z n) at e in let g : ◌≡◌ {A = ℕ} 0 1 = cc in absurd (omega (arith, g))))
      (λ n. let f : (Ok tt) ≡ Err r = rw (end_refused n) at e in let g : ◌≡◌ {A = ℕ} 0 1 = cc in absurd (omega (arith, g)))
