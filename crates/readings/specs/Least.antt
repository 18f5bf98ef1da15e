-- What `least` answers, by the refusal r of its first three tests.
use Rattle.std.specs.Prelude.{Ok, Err, ℕ, ◌≤◌, ◌<◌, List, ◌≡◌, eqb, length, Float}
use Rattle.std.proofs.Math.Bool.{true, false}
use Rattle.std.proofs.Math.Path.{sym, ap}
use Rattle.std.proofs.Common.{◌∙◌, arith}
use Rattle.std.proofs.Math.Dec.{ltb}
use borrow.Author.Tests.{ne_eqb, lt-ltb, le-ltb}
use Rattle.model.specs.declared.Refusal.{Refusal}
use Rattle.model.specs.Header.{len}
use Rattle.model.specs.Word.{header_of}
use Rattle.model.specs.Refusals.{refused_by, no_refusal}
use Rattle.model.specs.Gates.{sole_gate}
use Rattle.model.specs.Least.{least_of, count_by, least_refusal, least_answer}
use Rattle.gates.specs.Sole.{sole-stop, sole_on}

count_no : {r g : Refusal} (k : ℕ) → r ≡ g → (r.number ≡ 0 → ⊥) → Err r ≡ count_by g k
unfolding count_by
count_no k e n = rw (← e) (simp (ne_eqb _ _ n))

count_yes : {g : Refusal} (k : ℕ) → no_refusal ≡ g → Ok k ≡ count_by g k
unfolding count_by
count_yes k e = rw (← e)

module _ (w : ℕ) (a : List Float) (q : Float) {r : Refusal} (e : r ≡ sole_gate w (length a)) where
  pub least-stopped : (r.number ≡ 0 → ⊥) → Err r ≡ least_answer w a q
  unfolding least_answer least_refusal
  least-stopped n = count_no _ (sole-stop w (length a) _ e n) n

  module _ (z : r.number ≡ 0) (k : ℕ) (is : k ≡ least_of a (len (header_of w) 0) q) where
    pub least_lacking : {s : Refusal} → s ≡ refused_by 11 → len (header_of w) 0 ≤ k → Err s ≡ least_answer w a q
    unfolding least_answer least_refusal
    least_lacking {s} by h =
        let t : ltb (least_of a (len (header_of w) 0) q) (len (header_of w) 0) ≡ false = le-ltb _ _ (rw is at h) in
        let number : (s.number ≡ 0 → ⊥) = λ y. omega (arith, sym (ap (λ (x : Refusal). x.number) by) ∙ y) in
        count_no _ (by ∙ (simp t (sole_on w (length a) (refused_by 11) e z))) number

    pub least_had : k < len (header_of w) 0 → Ok k ≡ least_answer w a q
    unfolding least_answer least_refusal
    least_had h =
        let t : ltb (least_of a (len (header_of w) 0) q) (len (header_of w) 0) ≡ true = lt-ltb _ _ (rw is at h) in
        ap Ok is ∙ count_yes _ (simp t (sole_on w (length a) no_refusal e z))
