-- What `negate` shows at its returns, over plain values.
use Prim.Native.Nat.{ℕ, ◌^◌, ◌≤◌, ◌<◌}
use Rattle.std.specs.Prelude.{Ok, Err, List, ◌≡◌, length, take, Float}
use Rattle.std.proofs.Common.{sym, ◌∙◌, arith, get_or-take}
use Rattle.std.proofs.Math.Path.{ap}
use Rattle.std.specs.Float.Ieee.{nan, neg}
use Rattle.lists.specs.Table.{table, front, table_same, length-table}
use Rattle.model.specs.declared.Refusal.{Refusal}
use Rattle.model.specs.declared.Family.TheVariants.{Same}
use Rattle.model.specs.Header.{stored, no_header}
use Rattle.model.specs.Word.{header_of, word_of}
use Rattle.model.specs.Announced.{announced}
use Rattle.model.specs.Gates.{announced_one}
use Rattle.model.specs.Negate.{negated_at, negated, negate_gate, negate_answer, negate_out}
use Rattle.shape_words.specs.Words.{pack_unpack}
use Rattle.shape.specs.Announced.{same-header}
use Rattle.gates.specs.Gate.{OneReady, one-ready, answer_no, answer-yes, leaves_no, leaves-yes, written-full}

-- refused
module _ (w : ℕ) (a out : List Float) {r : Refusal} (e : r ≡ negate_gate w a out) (n : r.number ≡ 0 → ⊥) where
  pub negate-refused : Err r ≡ negate_answer w a out
  unfolding negate_answer
  negate-refused = rw (← e) (answer_no r _ n)

  pub negate-kept : out ≡ negate_out w a out
  unfolding negate_out
  negate-kept = rw (← e) (leaves_no r _ out n)

-- done
module _ (w : ℕ) (a out : List Float) {r : Refusal} (fit : w < 2 ^ 64) (e : r ≡ negate_gate w a out) (z : r.number ≡ 0) where
  pub negate-ready : OneReady Same w (length a) (length out)
  negate-ready = one-ready Same w (length a) (length out) (ap (λ (x : Refusal). x.number) (sym e) ∙ z)

  pub negate-done : Ok w ≡ negate_answer w a out
  unfolding negate_answer negated
  negate-done =
      let g = negate-ready in
      let h : word_of (announced Same (header_of w) no_header) ≡ w = ap word_of (same-header g.good.regular) ∙ pack_unpack w fit g.word in
      rw (← e) (ap Ok (sym h) ∙ answer-yes r _ z)

  pub negate_out_lem : {n : ℕ} → n ≡ stored (header_of w) → front n (negated_at a) out ≡ negate_out w a out
  unfolding negate_out negated
  negate_out_lem {n} k =
      let g = negate-ready in
      let m : ℕ = stored (header_of w) in
      let h : stored (announced_one Same w) ≡ m = ap stored (same-header g.good.regular) in
      let t : table m (negated_at a) ≡ table m (negated_at (take m a)) = table_same _ _ m (λ i l. ap neg (sym (get_or-take m a i nan l))) in
      rw (← e, h, k, t) (written-full m _ out (length-table (negated_at (take m a)) m) ∙ leaves-yes r _ out z)

pub negate-room : (w : ℕ) (a out : List Float) {n : ℕ} → OneReady Same w (length a) (length out) → n ≡ stored (header_of w) → (n ≤ length a) × (n ≤ length out)
negate-room w a out g k = let h : stored (announced_one Same w) ≡ stored (header_of w) =
    ap stored (same-header g.good.regular) in
    (omega (arith, g.full), omega (arith, g.room))
