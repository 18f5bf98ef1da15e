-- A list that grows by a list of words: each word makes one place more, at the end, from the places before it.
use Rattle.std.specs.Prelude.{ℕ, suc, ◌+◌, ◌≤◌, ◌<◌, ◌≡◌, length, get_or, take, drop}
use mathlib.Core.List.{List, [], ◌∷◌, ◌++◌}
use Rattle.std.proofs.Math.Path.{refl, sym}
use Rattle.std.proofs.Common.{ap, ◌∙◌, arith, add-zero, take-append-drop, take_all, length-take-le, drop-cons, get_or-take}
use Rattle.std.proofs.Math.Seq.{take-append-le}
use Rattle.std.proofs.lemmas.List.{get_or_at}
use Rattle.lists.specs.Grow.{length_snoc}

unfoldable pub chain {ℓ κ} : {A : Type ℓ} {B : Type κ} → (B → List A → A) → List A → List B → List A
chain s xs [] = xs
chain s xs (w ∷ ws) = chain s (xs ++ (s w xs ∷ [])) ws

module _ {ℓ κ} {A : Type ℓ} {B : Type κ} (s : B → List A → A) where
  pub chain-none : (xs : List A) → chain s xs [] ≡ xs
  unfolding chain
  chain-none xs = refl

  pub chain_cons : (xs : List A) (w : B) (ws : List B) → chain s xs (w ∷ ws) ≡ chain s (xs ++ (s w xs ∷ [])) ws
  unfolding chain
  chain_cons xs w ws = refl

  pub length-chain : (xs : List A) (ws : List B) → length (chain s xs ws) ≡ length xs + length ws
  unfolding chain
  length-chain xs [] = sym (add-zero (length xs))
  length-chain xs (w ∷ ws) = omega (arith, length-chain (xs ++ (s w xs ∷ [])) ws, length_snoc xs (s w xs))

  -- first some words, then the others
  pub chain_append : (xs : List A) (us ws : List B) → chain s xs (us ++ ws) ≡ chain s (chain s xs us) ws
  unfolding chain
  chain_append xs [] ws = refl
  chain_append xs (u ∷ us) ws = chain_append (xs ++ (s u xs ∷ [])) us ws

  -- what stands stays
  pub chain-keeps : (xs : List A) (ws : List B) (n : ℕ) → n ≤ length xs → take n (chain s xs ws) ≡ take n xs
  unfolding chain
  chain-keeps xs [] n h = refl
  chain-keeps xs (w ∷ ws) n h =
      chain-keeps (xs ++ (s w xs ∷ [])) ws n (omega (arith, length_snoc xs (s w xs)))
      ∙ take-append-le n xs (s w xs ∷ []) h

  -- the places before the place of the word number i
  pub chain-take : (xs : List A) (ws : List B) (i : ℕ) → i ≤ length ws → take (length xs + i) (chain s xs ws) ≡ chain s xs (take i ws)
  chain-take xs ws i h =
      let ys : List A = chain s xs (take i ws) in
      let e : length ys ≡ length xs + i = omega (arith, length-chain xs (take i ws), length-take-le i ws h) in
      ap (λ (l : List B). take (length xs + i) (chain s xs l)) (sym (take-append-drop i ws))
      ∙ (ap (take (length xs + i)) (chain_append xs (take i ws) (drop i ws))
      ∙ (chain-keeps ys (drop i ws) (length xs + i) (omega arith) ∙ take_all (length xs + i) ys (omega arith)))

  -- that place
  pub chain-at : (d : A) (e : B) (xs : List A) (ws : List B) (i : ℕ) → i < length ws
      → get_or (chain s xs ws) (length xs + i) d ≡ s (get_or ws i e) (chain s xs (take i ws))
  chain-at d e xs ws i h =
      let ys : List A = chain s xs (take i ws) in
      let w : B = get_or ws i e in
      let l : length ys ≡ length xs + i = omega (arith, length-chain xs (take i ws), length-take-le i ws (omega arith)) in
      let zs : List A = chain s (ys ++ (s w ys ∷ [])) (drop (suc i) ws) in
      let whole : chain s xs ws ≡ zs =
      ap (chain s xs) (sym (take-append-drop i ws))
      ∙ (chain_append xs (take i ws) (drop i ws) ∙ (ap (chain s ys) (drop-cons ws i e h) ∙ chain_cons ys w (drop (suc i) ws))) in
      ap (λ (t : List A). get_or t (length xs + i) d) whole
      ∙ (sym (get_or-take (suc (length xs + i)) zs (length xs + i) d (omega arith))
      ∙ (ap (λ (t : List A). get_or t (length xs + i) d)
      (chain-keeps (ys ++ (s w ys ∷ [])) (drop (suc i) ws) (suc (length xs + i)) (omega (arith, length_snoc ys (s w ys)))
      ∙ take_all (suc (length xs + i)) (ys ++ (s w ys ∷ [])) (omega (arith, length_snoc ys (s w ys))))
      ∙ get_or_at ys (s w ys) [] d (length xs + i) l))
