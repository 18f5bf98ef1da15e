-- A row in its buffer.
use Rattle.std.specs.Prelude.{ℕ, ◌+◌, ◌-◌, ◌≤◌, ◌<◌, List, ◌++◌, ◌≡◌, refl, length, take, drop, Float}
use Rattle.std.proofs.Common.{sym, ap, ◌∙◌, arith, take_at, drop_at, length-take-le}
use borrow.Rule.Slice.PartMut.{put_mid, same_len_mid, mid_len, take_put, drop_put}
use Rattle.lists.specs.Part.{Kept}
use Rattle.model.specs.Header.{span}
use Rattle.shape_words.specs.Lengths.{Lengths, lengths-pos}
use Rattle.shape_words.specs.InRow.{in_row}
use Rattle.shape_words.specs.Strides.{row_in}

-- a part of a buffer became xs
pub kept_put : (p e : ℕ) (w : List Float) {xs : List Float} {q : ℕ} → length xs ≡ e - p → p ≤ e → e ≤ length w → q ≡ e - p → Kept p e xs w (put_mid p q w xs)
kept_put p e w {xs} {q} l h g f =
    let lp : length (take p w) ≡ p = length-take-le p w (omega arith) in
    rw f record {
      below = record { len = same_len_mid p (e - p) w xs (l ∙ sym (mid_len p e w g)); head = take_put p (e - p) w xs (omega arith) };
      holds = ap (take (e - p)) (drop_at (take p w) (xs ++ drop (e - p) (drop p w)) p lp) ∙ take_at xs (drop (e - p) (drop p w)) (e - p) l;
      above = drop_put p e w xs h g l;
    }

-- a row is no more than the sub-block
pub row_under : {l : List ℕ} {v m : ℕ} → Lengths l → v < 4 → span l (4 - v) v ≤ m → in_row l v ≤ m
row_under {l} {v} {m} g h b = omega (arith, row_in l {j = 0} {s = in_row l v} h (lengths-pos g v h) refl b)
