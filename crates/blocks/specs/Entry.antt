-- What an entry shows at its two returns, whatever the operation: refused, and done with the front of each buffer
-- written.
use Rattle.std.specs.Prelude.{Ok, Err, ℕ, ◌-◌, ◌*◌, List, ◌++◌, ◌≡◌, Float}
use Rattle.std.proofs.Common.{append-nil, sym, ◌∙◌, arith, eq-eqb, ne_eqb}
use Rattle.std.proofs.Math.Path.{ap}
use Rattle.std.proofs.Math.ListN.{length, drop}
use Rattle.std.proofs.Math.Seq.{drop_at}
use Rattle.lists.specs.Table.{table}
use Rattle.model.specs.declared.Header.{Header}
use Rattle.model.specs.declared.Refusal.{Refusal}
use Rattle.model.specs.Header.{stored}
use Rattle.model.specs.Word.{word_of}
use Rattle.model.specs.Refusals.{answer_by, leaves, written, cleared, zeros}
use Rattle.model.specs.Poly.{Poly}
use Rattle.model.specs.Answers.{answered, out_after, scratch_after}

-- r what the gate answered, g its definition, h the announced header, p the value
module _ {r g : Refusal} (e : r ≡ g) (h : Header) (p : Poly) where
  module _ (n : r.number ≡ 0 → ⊥) where
    pub refused-answer : Err r ≡ answered g p
    unfolding answer_by
    refused-answer = rw (← e) (simp (ne_eqb _ _ n))

    pub refused-out : (old : List Float) → old ≡ out_after g h p old
    unfolding leaves
    refused-out old = rw (← e) (simp (ne_eqb _ _ n))

    pub refused-scratch : (old : List Float) → old ≡ scratch_after g h old
    unfolding leaves
    refused-scratch old = rw (← e) (simp (ne_eqb _ _ n))

  module _ (z : r.number ≡ 0) where
    pub passes : g.number ≡ 0
    passes = ap (λ (x : Refusal). x.number) (sym e) ∙ z

    pub done-answer : {w : ℕ} → w ≡ word_of p.head → Ok w ≡ answered g p
    unfolding answer_by
    done-answer k = simp (eq-eqb _ _ passes) (ap Ok k)

    -- the announced places were written
    pub done-out : (old : List Float) {n : ℕ} {front : List Float} → n ≡ stored h
        → front ≡ p.coeffs ++ zeros (n - length p.coeffs) → front ++ drop n old ≡ out_after g h p old
    unfolding leaves written
    done-out old k f = simp (eq-eqb _ _ passes) (rw (f, k))

    -- and the answer fills them all
    pub done_full : (old : List Float) {n : ℕ} {front : List Float} → n ≡ stored h → front ≡ p.coeffs
        → length front ≡ n → front ++ drop n old ≡ out_after g h p old
    unfolding table
    done_full old {n} {front} k f l =
        let q : n - length p.coeffs ≡ 0 = rw (← f) (omega arith) in
        done-out old k (f ∙ (sym (append-nil p.coeffs) ∙ ap (λ (m : ℕ). p.coeffs ++ zeros m) (sym q)))

    -- the scratch was used, and then cleared
    pub done-scratch : (old used : List Float) {m k : ℕ} {front : List Float} → m ≡ 8 * stored h → length used ≡ m → front ≡ zeros k → k ≡ m
        → front ++ drop m (used ++ drop m old) ≡ scratch_after g h old
    unfolding leaves cleared
    done-scratch old used {m} a l f j =
        let q : drop m (used ++ drop m old) ≡ drop m old = drop_at used (drop m old) m l in
        simp (eq-eqb _ _ passes) (rw (q, f, j, a))
