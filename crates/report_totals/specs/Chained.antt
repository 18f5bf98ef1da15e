-- A loop that finds a place after the other, each by its word from the places before it, at the front of an array.
use Rattle.std.specs.Prelude.{ℕ, ◌+◌, ◌≤◌, ◌<◌, List, [], ◌∷◌, ◌++◌, ◌≡◌, length, get_or, take, drop, set, replicate}
use Rattle.std.proofs.Common.{sym, ap, ◌∙◌, add-one, arith, take-append-drop, take_all, take-suc, length-take-le}
use Rattle.std.proofs.lemmas.List.{length-replicate, get_or-replicate}
use Rattle.lists.specs.Chain.{chain, chain-none, chain_cons, chain_append, length-chain}
use Rattle.lists.specs.Grow.{over, length_over, take-over, over-more}
use Rattle.lists.specs.Table.{table, length-table, table_same, table-take}

-- i words done, behind the places of `start`; old: the array as it was
pub record Chained {A : Type 0} (s : ℕ → List A → A) (start : List A) (ws : List ℕ) (old found : List A) (i : ℕ) : Type 0 where
  pub most : i ≤ length ws
  pub fit : length start + length ws ≤ length old
  pub is : found ≡ over (chain s start (take i ws)) old

module _ {A : Type 0} (s : ℕ → List A → A) (start : List A) (ws : List ℕ) where
  -- so many places are found
  found-many : (i : ℕ) → i ≤ length ws → length (chain s start (take i ws)) ≡ length start + i
  found-many i l = omega (arith, length-chain s start (take i ws), length-take-le i ws l)

  pub chained-none : (old : List A) → take (length start) old ≡ start → length start + length ws ≤ length old → Chained s start ws old old 0
  chained-none old e l =
      let c : chain s start (take 0 ws) ≡ start = chain-none s start in
      record {
        most = omega arith;
        fit = l;
        is = sym (ap (λ (x : List A). over x old) c ∙ (ap (λ (x : List A). x ++ drop (length start) old) (sym e) ∙ take-append-drop (length start) old));
      }

  -- one word more
  chain_more : (i : ℕ) → i < length ws
      → chain s start (take (i + 1) ws) ≡ chain s start (take i ws) ++ (s (get_or ws i 0) (chain s start (take i ws)) ∷ [])
  chain_more i l =
      let xs : List A = chain s start (take i ws) in
      rw (add-one i, take-suc ws i 0 l)
      (chain_append s start (take i ws) (get_or ws i 0 ∷ []) ∙ (chain_cons s xs (get_or ws i 0) [] ∙ chain-none s _))

module _ {A : Type 0} {s : ℕ → List A → A} {start : List A} {ws : List ℕ} {old found : List A} {i : ℕ} (c : Chained s start ws old found i) where
  abbrev done : List A
  done = chain s start (take i ws)

  pub chained-len : length found ≡ length old
  chained-len = ap length c.is ∙ length_over done old (omega (arith, found-many s start ws i c.most, c.fit, c.most))

  chained-front : take (length start + i) found ≡ done
  chained-front = ap (take (length start + i)) c.is ∙ take-over done old (length start + i) (found-many s start ws i c.most)

  -- at: the place of the word number i
  pub chained_more : {at : ℕ} {x : A} → at ≡ length start + i → x ≡ s (get_or ws i 0) (take at found) → i < length ws
      → Chained s start ws old (set found at x) (i + 1)
  chained_more {at} {x} p e l =
      let f : x ≡ s (get_or ws i 0) done = e ∙ ap (s (get_or ws i 0)) (ap (λ (n : ℕ). take n found) p ∙ chained-front) in
      record {
        most = omega arith;
        fit = c.fit;
        is =
            ap (λ (z : List A). set z at x) c.is
            ∙ (over-more done old x at (found-many s start ws i c.most ∙ sym p) (omega (arith, c.fit))
            ∙ ap (λ (z : List A). over z old) (ap (λ (y : A). done ++ (y ∷ [])) f ∙ sym (chain_more s start ws i l)));
      }

  -- all of them
  pub chained_end : {n : ℕ} → n ≡ length start + length ws → length ws ≤ i → take n found ≡ chain s start ws
  chained_end {n} e l =
      let q : n ≡ length start + i = omega (arith, c.most) in
      ap (λ (m : ℕ). take m found) q ∙ (chained-front ∙ ap (chain s start) (take_all i ws l))

-- an array of one number is so at its front
pub front_same : {A : Type 0} (n m : ℕ) (a : A) → n ≤ m → take n (replicate m a) ≡ table n (λ k. a)
front_same n m a l =
    sym (table-take a (replicate m a) n (omega (arith, length-replicate m a)))
    ∙ table_same (λ k. get_or (replicate m a) k a) (λ k. a) n (λ k h. get_or-replicate m k a a (omega arith))

-- ---- behind n places of a table

pub tabled-none : {A : Type 0} (s : ℕ → List A → A) (n : ℕ) (f : ℕ → A) (ws : List ℕ) (old : List A) → take n old ≡ table n f
    → n + length ws ≤ length old → Chained s (table n f) ws old old 0
tabled-none s n f ws old e l =
    chained-none s (table n f) ws old (ap (λ (m : ℕ). take m old) (length-table f n) ∙ e) (omega (arith, length-table f n))

module _ {A : Type 0} {s : ℕ → List A → A} (n : ℕ) (f : ℕ → A) {ws : List ℕ} {old found : List A} {i : ℕ} (c : Chained s (table n f) ws old found i) where
  pub tabled-more : {x : A} → x ≡ s (get_or ws i 0) (take (n + i) found) → i < length ws → Chained s (table n f) ws old (set found (n + i) x) (i + 1)
  tabled-more {x} e l = let p : n + i ≡ length (table n f) + i = omega (arith, length-table f n) in chained_more c {at = n + i} {x = x} p e l

  pub tabled_end : length ws ≤ i → take (n + length ws) found ≡ chain s (table n f) ws
  tabled_end l =
      let p : n + length ws ≡ length (table n f) + length ws = omega (arith, length-table f n) in
      chained_end c {n = n + length ws} p l
