-- What a fill with +0.0 leaves of a buffer, where it went from the first place on.
use Rattle.std.specs.Prelude.{ℕ, zero, suc, ◌-◌, List, [], ◌++◌, ◌≡◌, replicate, length, take, drop, Float}
use Rattle.std.proofs.Common.{◌∙◌, ap, arith, length-take, length-drop, append-nil}
use Rattle.std.proofs.lemmas.List.{drop_all}
use borrow.Rule.Slice.PartMut.{put_mid}
use Rattle.model.specs.Refusals.{zero_f, zeros}
use Rattle.blocks.specs.Line.{same-table}

pub rest_cleared : (k : ℕ) (xs : List Float) {ys : List Float} → k ≡ 0
    → ys ≡ replicate (length (take (length xs - k) (drop k xs))) zero_f
    → put_mid k (length xs - k) xs ys ≡ zeros (length xs)
rest_cleared zero xs {ys} z e =
    let n : length (take (length xs - 0) (drop 0 xs)) ≡ length xs = simp (length-take, length-drop) (omega arith) in
    let none : drop (length xs - 0) xs ≡ [] = drop_all (length xs - 0) xs (omega arith) in
    ap (λ (l : List Float). ys ++ l) none
    ∙ (append-nil ys ∙ (e ∙ (ap (λ (m : ℕ). replicate m zero_f) n ∙ same-table (length xs) zero_f)))
rest_cleared (suc k) xs z e = absurd (omega (arith, z))
