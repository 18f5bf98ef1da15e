-- Last readers: no step after it reads the place; so the operands of a step are live when it is placed, and its part
-- lies apart from theirs.
use Prim.Native.Nat.{ℕ, zero, suc, ◌+◌, ◌-◌, ◌≤◌, ◌<◌}
use Rattle.std.proofs.Math.Seq.{get_or-drop}
use Rattle.std.specs.Prelude.{Bool, true, false, cond, List, [], ◌∷◌, ◌≡◌, length, drop}
use Rattle.std.proofs.Math.Path.{ap}
use Rattle.std.proofs.Common.{◌∙◌}
use native.Mathlib.Omega.{arith}
use Rattle.std.proofs.Math.ListN.{get_or, length-drop}
use Rattle.lists.specs.Table.{table_at, length-table}
use Rattle.model_placing.specs.Placing.{reads, last_from, last_reader, last_readers, offsets}
use Rattle.shape_operands.specs.Apart.{Apart}
use Rattle.recipes_placing.specs.Placed.{live-apart}

low : (b : Bool) {i r m : ℕ} → r ≤ i → m ≤ r → m ≤ cond b i r
low true h l = omega arith
low false h l = l

high : (b : Bool) {i r : ℕ} → r ≤ i → cond b i r ≤ suc i
high true h = omega arith
high false h = omega arith

pub last-low : (p i : ℕ) (ws : List ℕ) (r m : ℕ) → r ≤ i → m ≤ r → m ≤ last_from p i ws r
unfolding last_from
last-low p i [] r m h l = l
last-low p i (w ∷ ws) r m h l = last-low p (suc i) ws (cond (reads w p) i r) m (high (reads w p) h) (low (reads w p) h l)

here : (b : Bool) {i : ℕ} (r : ℕ) → b ≡ true → i ≤ cond b i r
here true r e = omega arith
here false r e = let w : ◌≡◌ {A = ℕ} 0 1 = cc in absurd (omega arith)

-- a step that reads the place is the last reader or before it
pub last-reads : (p i : ℕ) (ws : List ℕ) (r m : ℕ) → r ≤ i → m < length ws → reads (get_or ws m 0) p ≡ true → i + m ≤ last_from p i ws r
unfolding last_from
last-reads p i [] r m h l e = absurd (omega arith)
last-reads p i (w ∷ ws) r zero h l e =
    omega (arith, last-low p (suc i) ws (cond (reads w p) i r) i (high (reads w p) h) (here (reads w p) r e))
last-reads p i (w ∷ ws) r (suc m) h l e =
    omega (arith, last-reads p (suc i) ws (cond (reads w p) i r) m (high (reads w p) h) (omega arith) e)

pub length_readers : (k : ℕ) (ss : List ℕ) → length (last_readers k ss) ≡ length ss
unfolding last_readers
length_readers k ss = length-table (last_reader k ss) (length ss)

pub reader_at : (k : ℕ) (ss : List ℕ) (j : ℕ) → j < length ss → get_or (last_readers k ss) j 0 ≡ last_reader k ss j
unfolding last_readers
reader_at k ss j h = table_at 0 (last_reader k ss) (length ss) j h

module _ (k : ℕ) (ss : List ℕ) where
  -- an operand of the step i that is a step is live when the step i is placed
  pub operand-live : (j i : ℕ) → j < i → i < length ss → reads (get_or ss i 0) (k + j) ≡ true → i ≤ get_or (last_readers k ss) j 0
  unfolding last_reader
  operand-live j i l h e =
      let m : ℕ = i - suc j in
      let q : suc j + m ≡ i = omega arith in
      let r : get_or (drop (suc j) ss) m 0 ≡ get_or ss i 0 = get_or-drop (suc j) ss m 0 ∙ ap (λ (n : ℕ). get_or ss n 0) q in
      let t : suc j + m ≤ last_from (k + j) (suc j) (drop (suc j) ss) j =
      last-reads (k + j) (suc j) (drop (suc j) ss) j m (omega arith) (simp length-drop (omega arith)) (rw r e) in
      rw (reader_at k ss j (omega arith)) (omega arith)

  -- while a step writes, its part lies apart from the parts of its operands
  pub operand-apart : (cs : List ℕ) (j i : ℕ) → length ss ≡ length cs → j < i → i < length ss → reads (get_or ss i 0) (k + j) ≡ true
      → Apart (get_or (offsets (last_readers k ss) cs) i 0) (get_or cs i 0) (get_or (offsets (last_readers k ss) cs) j 0) (get_or cs j 0)
  operand-apart cs j i q l h e = live-apart (last_readers k ss) cs j i l (omega arith) (operand-live j i l h e)
