-- Values that lie end to end at announced counts: each is read back from its own places.
use Rattle.std.specs.Prelude.{ℕ, zero, suc, ◌+◌, ◌-◌, ◌≤◌, ◌<◌, List, [], ◌∷◌, ◌++◌, ◌≡◌, length, take, drop, Float}
use Rattle.std.proofs.Common.{append_assoc, sym, ap, ◌∙◌, arith, length-append, take_at, drop_at, drop-drop}
use Rattle.lists.specs.Table.{length-table}
use Rattle.model.specs.declared.Header.{Header}
use Rattle.model.specs.Header.{stored}
use Rattle.model.specs.Refusals.{zero_f, zeros, padded}
use Rattle.model.specs.Poly.{Poly}
use Rattle.model_recipes.specs.Recipe.{head_at, total}
use Rattle.model_recipes.specs.Run.{value_at, laid}

pub length-padded : (n : ℕ) (xs : List Float) → length xs ≤ n → length (padded n xs) ≡ n
length-padded n xs l = omega (arith, length-append xs (zeros (n - length xs)), length-table (λ k. zero_f) (n - length xs))

-- no value is longer than its announced count
pub record Fitting (known : List Header) (vs : List Poly) : Type 0 where
  pub same : length vs ≡ length known
  pub fits : (p : ℕ) → p < length known → length (value_at vs p).coeffs ≤ stored (head_at known p)

pub laid-at : (known : List Header) (vs : List Poly) (rest : List Float) → Fitting known vs → (i : ℕ) → i < length known
    → take (stored (head_at known i)) (drop (total (take i known)) (laid known vs ++ rest)) ≡ padded (stored (head_at known i)) (value_at vs i).coeffs
unfolding laid total
laid-at [] vs rest f i l = absurd (omega arith)
laid-at (h ∷ known) [] rest f i l = absurd (omega (arith, f.same))
laid-at (h ∷ known) (v ∷ vs) rest f zero l =
    let x = padded (stored h) v.coeffs in
    ap (take (stored h)) (append_assoc x (laid known vs) rest)
    ∙ take_at x (laid known vs ++ rest) (stored h) (length-padded (stored h) v.coeffs (f.fits 0 (omega arith)))
laid-at (h ∷ known) (v ∷ vs) rest f (suc i) l =
    let x = padded (stored h) v.coeffs in
    let n = total (take i known) in
    ap (take (stored (head_at known i)))
    (ap (drop (stored h + n)) (append_assoc x (laid known vs) rest)
    ∙ (sym (drop-drop n (stored h) (x ++ (laid known vs ++ rest)))
    ∙ ap (drop n) (drop_at x (laid known vs ++ rest) (stored h) (length-padded (stored h) v.coeffs (f.fits 0 (omega arith))))))
    ∙ laid-at known vs rest (record { same = omega (arith, f.same); fits = λ p m. f.fits (suc p) (omega arith) }) i (omega arith)
