-- The list of f 0, f 1, .. f (n - 1): what is made place by place; and a loop that fills the front of a list with it.
use Prim.Native.Nat.{ℕ, zero, suc, ◌+◌, ◌≤◌, ◌<◌}
use Rattle.std.specs.Prelude.{List, [], ◌∷◌, ◌++◌, ◌≡◌, length, get_or, take, drop, set, ltb}
use Rattle.std.proofs.Math.Path.{refl}
use Rattle.std.proofs.Common.{sym, ap, ◌∙◌, arith, le_refl, length-drop, length-set, drop-cons, take-suc, ltb-true, ltb-false}
use Rattle.std.proofs.Math.Numerals.{add-one}
use Rattle.std.proofs.Math.ListN.{length-append, get_or-append}
use Rattle.std.proofs.lemmas.List.{get_or_at}
use Rattle.std.proofs.Math.Seq.{set_at, append_snoc, take-length}
use Rattle.lists.specs.Test.{decide}

unfoldable pub table {ℓ} : {A : Type ℓ} → ℕ → (ℕ → A) → List A
table zero f = []
table (suc n) f = table n f ++ (f n ∷ [])

-- a list whose front is written
abbrev pub front {ℓ} : {A : Type ℓ} → ℕ → (ℕ → A) → List A → List A
front n f d = table n f ++ drop n d

module _ {ℓ} {A : Type ℓ} (f : ℕ → A) where
  pub length-table : (n : ℕ) → length (table n f) ≡ n
  unfolding table
  length-table zero = refl
  length-table (suc n) = length-append (table n f) (f n ∷ []) ∙ simp (length-table n) (omega arith)

  -- no turn yet
  pub front-none : (d : List A) → d ≡ front 0 f d
  unfolding table
  front-none d = refl

  -- one turn more
  pub front-more : (n : ℕ) (d : List A) → n < length d → set (front n f d) n (f n) ≡ front (n + 1) f d
  unfolding table
  front-more n d h =
      rw (drop-cons d n (f n) h, set_at (table n f) (get_or d n (f n)) (drop (suc n) d) (f n) n (length-table n), add-one n)
      (sym (append_snoc (table n f) (f n) (drop (suc n) d)))

  pub length_front : (n : ℕ) (d : List A) → n ≤ length d → length (front n f d) ≡ length d
  length_front n d h = simp (length-append, length-drop, length-table) (omega arith)

-- what a loop that fills `out`, `d` at first, has done after n turns
pub record Filled {ℓ} {A : Type ℓ} (n : ℕ) (f : ℕ → A) (d out : List A) : Type ℓ where
  pub len : length out ≡ length d
  pub is : out ≡ front n f d

module _ {ℓ} {A : Type ℓ} where
  pub filled_none : {f : ℕ → A} {d : List A} → Filled 0 f d d
  filled_none {f} {d} = record { len = refl; is = front-none f d }

  pub filled_more : {n : ℕ} {f : ℕ → A} {d out : List A} {v : A} → Filled n f d out → v ≡ f n → n < length d → Filled (n + 1) f d (set out n v)
  filled_more {n} {f} {d} {out} {v} e p h =
      record { len = length-set out n v ∙ e.len; is = rw (e.is, p) (front-more f n d h) }

  pub filled_end : {i n : ℕ} {f : ℕ → A} {d out : List A} → Filled i f d out → i ≤ n → n ≤ i → out ≡ front n f d
  filled_end {i} {n} {f} {d} e p q = let h : i ≡ n = omega arith in e.is ∙ ap (λ (k : ℕ). front k f d) h

-- the front of a list, as a table of its elements
pub table-take {ℓ} : {A : Type ℓ} (d : A) (xs : List A) (n : ℕ) → n ≤ length xs → table n (λ k. get_or xs k d) ≡ take n xs
unfolding table
table-take d xs zero h = refl
table-take d xs (suc n) h = ap (λ l. l ++ (get_or xs n d ∷ [])) (table-take d xs n (omega arith)) ∙ sym (take-suc xs n d h)

pub table-all {ℓ} : {A : Type ℓ} (d : A) (xs : List A) → table (length xs) (λ k. get_or xs k d) ≡ xs
table-all d xs = table-take d xs (length xs) (le_refl _) ∙ take-length xs

-- a place of a table
pub table_at {ℓ} : {A : Type ℓ} (d : A) (f : ℕ → A) (n i : ℕ) → i < n → get_or (table n f) i d ≡ f i
unfolding table
table_at d f zero i h = absurd (omega arith)
table_at d f (suc n) i h =
    decide (ltb i n)
    (λ t. let l = ltb-true i n t in get_or-append (table n f) (f n ∷ []) d i (omega (arith, length-table f n)) ∙ table_at d f n i l)
    (λ t. let e : i ≡ n = omega (arith, ltb-false i n t) in rw e (get_or_at (table n f) (f n) [] d n (length-table f n)))

-- tables that agree at each place
pub table_same {ℓ} : {A : Type ℓ} (f g : ℕ → A) (n : ℕ) → ((i : ℕ) → i < n → f i ≡ g i) → table n f ≡ table n g
unfolding table
table_same f g zero h = refl
table_same f g (suc n) h = rw (table_same f g n (λ i l. h i (omega arith)), h n (omega arith))
