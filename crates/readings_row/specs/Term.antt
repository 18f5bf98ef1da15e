-- `taylor_polynomial` and `coefficients_of_term`: what they ask of their kernels, and what they write.
use Rattle.std.specs.Prelude.{ℕ, ◌+◌, ◌-◌, ◌≤◌, ◌<◌, List, [], ◌∷◌, ◌++◌, ◌≡◌, refl, eqb, length, drop, set, Float}
use Rattle.std.proofs.Common.{append-nil, sym, ap, ◌∙◌, arith, le_refl, lit<}
use borrow.Author.Tests.{le-leb, lt-leb, eq-eqb}
use Rattle.lists.specs.Test.{of-both}
use Rattle.lists.specs.Four.{at-four}
use Rattle.lists.specs.Table.{table}
use Rattle.model.specs.declared.Header.{Header}
use Rattle.model.specs.declared.Family.{Family}
use Rattle.model.specs.declared.Family.TheVariants.{Term, Order}
use Rattle.model.specs.Header.{limit, len, stored, ones, no_header, with_lengths}
use Rattle.model.specs.Places.{index}
use Rattle.model.specs.Announced.{limit_after, length_after, single, announced}
use Rattle.model.specs.Refusals.{zero_f, zeros, padded, written}
use Rattle.model.specs.Poly.{Poly, poly, block_of, read_at}
use Rattle.model.specs.Readings.{coefficients_of_term}
use Rattle.shape_words.specs.Rules.{Ruled, Regular, ruled-at}
use Rattle.shape_words.specs.Lengths.{lengths_of_lem}
use Rattle.shape.specs.Announced.{single-regular}
use Rattle.lists.specs.Fill.{table-add}
use Rattle.blocks.specs.Rows.{Cutting}
use Rattle.readings_row.specs.Rows.{Picking}

pub padded-full : {n : ℕ} (xs : List Float) → length xs ≡ n → xs ≡ padded n xs
unfolding table
padded-full {n} xs e = let z : n - length xs ≡ 0 = omega arith in sym (append-nil xs) ∙ rw z

-- a zero with +0.0 after it
pub padded-zero : {n : ℕ} → 0 < n → zeros n ≡ padded n (zero_f ∷ [])
unfolding table
padded-zero {n} h = let e : n ≡ 1 + (n - 1) = omega arith in ap zeros e ∙ table-add (λ k. zero_f) 1 (n - 1)

-- the announced places were lent
pub part-written : (n : ℕ) (xs out : List Float) {part : List Float} → part ≡ padded n xs → part ++ drop n out ≡ written n xs out
unfolding written
part-written n xs out e = rw e

-- the announced lengths are no greater

pub term-regular : (v : ℕ) {h : Header} → Ruled h → Regular (announced (Term v) h no_header)
unfolding announced
term-regular v g = single-regular (Term v) g

pub order-regular : (v n : ℕ) {h : Header} → Ruled h → Regular (announced (Order v n) h no_header)
unfolding announced
order-regular v n g = single-regular (Order v n) g

inner : (f : Family) (h : Header) → ((k : ℕ) → k < 4
    → length_after f k (limit_after f k (limit h k)) 1 (len h k) 1 ≤ len h k) → (k : ℕ) → k < 4
    → len (single f h) k ≤ len h k
unfolding single
inner f h g k p = rw (at-four (λ k. length_after f k (limit_after f k (limit h k)) 1 (len h k) 1) k p) (g k p)

pub term-inner : (v : ℕ) {h : Header} → Ruled h → (k : ℕ) → k < 4 → len (announced (Term v) h no_header) k ≤ len h k
unfolding announced
term-inner v {h} g = inner (Term v) h (λ k p. of-both (λ (x : ℕ). x ≤ len h k) (eqb k v) (ruled-at g k p).pos (le_refl (len h k)))

-- and the row's own variable has length 1
term-alone : (v : ℕ) (h : Header) → v < 4 → len (announced (Term v) h no_header) v ≡ 1
unfolding announced single
term-alone v h p =
    at-four (λ k. length_after (Term v) k (limit_after (Term v) k (limit h k)) 1 (len h k) 1) v p ∙ (rw (eq-eqb v v refl))

pub order-inner : (v n : ℕ) (h : Header) (k : ℕ) → k < 4 → len (announced (Order v n) h no_header) k ≤ len h k
unfolding announced
order-inner v n h = inner (Order v n) h (λ k p. of-both (λ (x : ℕ). x ≤ len h k) (eqb k v) (omega arith) (le_refl (len h k)))

-- what `load` asks, m and l the lengths of its buffers
pub order_cutting : (v n : ℕ) {h r : Header} {m l : ℕ} → Ruled h → r ≡ announced (Order v n) h no_header → m ≡ stored h
    → l ≡ stored r → Cutting h.lengths r.lengths m l
order_cutting v n {h} {r} g e p q =
    let i : (k : ℕ) → k < 4 → len r k ≤ len h k = rw e (order-inner v n h) in
    let k : Ruled r = rw e (order-regular v n g).rules in
    record {
      from = lengths_of_lem g;
      to = lengths_of_lem k;
      inner = record { c0 = i 0 (lit< tt); c1 = i 1 (lit< tt); c2 = i 2 (lit< tt); c3 = i 3 (lit< tt) };
      room = omega arith;
      full = q;
    }

-- what `take_term` asks
pub record Termed (h r : Header) (v m l : ℕ) : Type 0 where
  pub rules : Ruled h
  pub is : r ≡ announced (Term v) h no_header
  pub var : v < 4
  pub full : m ≡ stored h
  pub room : l ≡ stored r

module _ {h r : Header} {v m l : ℕ} (t : Termed h r v m l) where
  pub termed-regular : Regular r
  termed-regular = rw t.is (term-regular v t.rules)

  pub termed_picking : {d : ℕ} → d < len h v → Picking h.lengths r.lengths v d m l
  termed_picking p =
      record {
        from = lengths_of_lem t.rules;
        to = lengths_of_lem termed-regular.rules;
        var = t.var;
        row = p;
        alone = rw t.is (term-alone v h t.var);
        inner = rw t.is (term-inner v t.rules);
        room = omega (arith, t.full);
        full = t.room;
      }

module _ (v d : ℕ) (p : Poly) where
  abbrev pub term_header : Header
  term_header = announced (Term v) p.head no_header

  -- past the stored length
  pub term-past : {r : Header} → r ≡ term_header → len p.head v ≤ d → coefficients_of_term v d p ≡ poly (with_lengths r ones) (zero_f ∷ [])
  unfolding coefficients_of_term
  term-past e l = rw (e, le-leb _ _ l)

  -- a stored row
  pub term-row : {r : Header} → r ≡ term_header → d < len p.head v
      → coefficients_of_term v d p ≡ poly r (table (stored r) (λ k. read_at (block_of p) (set (index r.lengths k) v d)))
  unfolding coefficients_of_term
  term-row e l = rw (e, lt-leb _ _ l)
