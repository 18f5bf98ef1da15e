-- A list that grows in two parts, and by steps that agree.
use Prim.Native.Nat.{ℕ, zero, suc, ◌+◌, ◌<◌}
use mathlib.Core.List.{List, [], ◌∷◌, ◌++◌, append_assoc, append-nil}
use Rattle.std.specs.Prelude.{◌≡◌, length}
use Rattle.std.proofs.Math.Path.{refl}
use Rattle.std.proofs.Common.{sym, arith, add-zero, add-suc}
use Rattle.lists.specs.Grow.{grow, length-grow}

module _ {ℓ} {A : Type ℓ} where
  -- m places, then s more, each from all before it
  pub grow-add : (f : List A → A) (m s : ℕ) → grow (m + s) f [] ≡ grow m f [] ++ grow s (λ q. f (grow m f [] ++ q)) []
  unfolding grow
  grow-add f m zero = rw (add-zero m) (sym (append-nil (grow m f [])))
  grow-add f m (suc s) =
      let a : List A = grow m f [] in
      let b : List A = grow s (λ q. f (a ++ q)) [] in
      rw (add-suc m s, grow-add f m s) (append_assoc a b (f (a ++ b) ∷ []))

  -- steps that agree on shorter lists
  pub grow-same : (f g : List A → A) (s : ℕ) → ((q : List A) → length q < s → f q ≡ g q) → grow s f [] ≡ grow s g []
  unfolding grow
  grow-same f g zero h = refl
  grow-same f g (suc s) h =
      rw (grow-same f g s (λ q l. h q (omega arith)), h (grow s g []) (omega (arith, length-grow s g [])))

  pub length-grown : (f : List A → A) (s : ℕ) → length (grow s f []) ≡ s
  length-grown f s = omega (arith, length-grow s f [])
