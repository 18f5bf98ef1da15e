-- What the laws say of an index: that it lies in a box, and that it is another at most in each variable.
use Rattle.std.specs.Prelude.{ℕ, ◌≤◌, ◌<◌, List, [], ◌∷◌}

-- j is an index of the box ns
pub data InBox : List ℕ → List ℕ → Type 0 where
  none : InBox [] []
  more : {i n : ℕ} {j ns : List ℕ} → i < n → InBox j ns → InBox (i ∷ j) (n ∷ ns)

-- j is k at most in each variable
pub data Within : List ℕ → List ℕ → Type 0 where
  none : Within [] []
  more : {i n : ℕ} {j k : List ℕ} → i ≤ n → Within j k → Within (i ∷ j) (n ∷ k)
