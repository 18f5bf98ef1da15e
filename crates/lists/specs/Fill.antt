-- What a loop over rows has done, and one that changes each place in turn.
use Rattle.std.specs.Prelude.{ℕ, zero, suc, ◌+◌, ◌-◌, ◌≤◌, ◌<◌, List, [], ◌∷◌, ◌++◌, ◌≡◌, length, get_or, take, drop}
use Rattle.std.proofs.Common.{append_assoc, append-nil, sym, ap, ◌∙◌, arith, add-suc, add-zero, length-append}
use Rattle.std.proofs.Common.{length-drop, take_at, take_all, drop_at, drop-drop, get_or-drop}
use Rattle.std.proofs.Math.Seq.{drop-length}
use Rattle.lists.specs.Table.{table, length-table, table_same, table-take, front, Filled}

-- a table in two parts
pub table-add {ℓ} : {A : Type ℓ} (f : ℕ → A) (n m : ℕ) → table (n + m) f ≡ table n f ++ table m (λ k. f (n + k))
unfolding table
table-add f n zero = rw (add-zero n) (sym (append-nil (table n f)))
table-add f n (suc m) = rw (add-suc n m, table-add f n m) (append_assoc (table n f) (table m (λ k. f (n + k))) (f (n + m) ∷ []))

module _ {A : Type 0} where
  drop-front : (f : ℕ → A) (at w : ℕ) (d : List A) → drop (at + w) (front at f d) ≡ drop (at + w) d
  drop-front f at w d =
      sym (drop-drop w at (front at f d)) ∙ (ap (drop w) (drop_at (table at f) (drop at d) at (length-table f at)) ∙ drop-drop w at d)

  -- a row of w places was lent, and holds its part of f now
  pub filled_row : (w : ℕ) {at : ℕ} {f : ℕ → A} {d out row : List A} → Filled at f d out → row ≡ table w (λ k. f (at + k)) → at + w ≤ length d
      → Filled (at + w) f d (take at out ++ (row ++ drop (at + w) out))
  filled_row w {at} {f} {d} {out} {row} e r h =
      let t : take at out ≡ table at f = ap (take at) e.is ∙ take_at (table at f) (drop at d) at (length-table f at) in
      let s : drop (at + w) out ≡ drop (at + w) d = ap (drop (at + w)) e.is ∙ drop-front f at w d in
      let k : take at out ++ (row ++ drop (at + w) out) ≡ front (at + w) f d =
      rw (t, r, s, table-add f at w) (sym (append_assoc (table at f) (table w (λ k. f (at + k))) (drop (at + w) d))) in
      record { len = ap length k ∙ simp (length-append, length-drop, length-table) (omega arith); is = k }

  -- what has not been reached yet is as it was
  pub filled-rest : {at : ℕ} {f : ℕ → A} {d out : List A} → Filled at f d out → drop at out ≡ drop at d
  filled-rest {at} {f} {d} e = ap (drop at) e.is ∙ drop_at (table at f) (drop at d) at (length-table f at)

  pub filled-here : {at : ℕ} {f : ℕ → A} {d out : List A} (x : A) → Filled at f d out → at < length d → get_or out at x ≡ get_or d at x
  filled-here {at} {f} {d} {out} x e h =
      let k : (l : List A) → get_or l at x ≡ get_or (drop at l) 0 x = λ l. ap (λ (n : ℕ). get_or l n x) (sym (add-zero at)) ∙ sym (get_or-drop at l 0 x) in
      k out ∙ (ap (λ (l : List A). get_or l 0 x) (filled-rest e) ∙ sym (k d))

  -- a part as a table
  pub part-table : (x : A) (l : List A) (at w : ℕ) → at + w ≤ length l → take w (drop at l) ≡ table w (λ k. get_or l (at + k) x)
  part-table x l at w h =
      sym (table-take x (drop at l) w (simp length-drop (omega arith))) ∙ table_same _ _ w (λ k q. get_or-drop at l k x)

  -- the whole list was filled
  pub filled-all : {i : ℕ} {f : ℕ → A} {d out : List A} → Filled i f d out → i ≤ length d → length d ≤ i → out ≡ table (length d) f
  filled-all {i} {f} {d} e p q =
      let h : i ≡ length d = omega arith in
      e.is ∙ (rw (h, drop-length d) (append-nil (table (length d) f)))

  -- its front was filled, and f leaves the rest as it was
  pub filled-front : (x : A) {i : ℕ} {f : ℕ → A} {d out : List A} → Filled i f d out → i ≤ length d
      → ((k : ℕ) → i ≤ k → k < length d → f k ≡ get_or d k x) → out ≡ table (length d) f
  filled-front x {i} {f} {d} e p h =
      let n : length d ≡ i + (length d - i) = omega arith in
      let t : table (length d - i) (λ k. f (i + k)) ≡ drop i d =
      table_same _ _ (length d - i) (λ k q. h (i + k) (omega arith) (omega arith) ∙ sym (get_or-drop i d k x))
      ∙ (table-take x (drop i d) (length d - i) (simp length-drop (omega arith)) ∙ take_all (length d - i) (drop i d) (simp length-drop (omega arith))) in
      e.is ∙ (ap (λ (l : List A). table i f ++ l) (sym t) ∙ (sym (table-add f i (length d - i)) ∙ ap (λ (m : ℕ). table m f) (sym n)))
