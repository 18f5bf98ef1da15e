-- The numbers of a shape as they are kept, and the loop that reads a tuple.
use Rattle.std.specs.Prelude.{ℕ, zero, suc, ◌+◌, ◌-◌, ◌≤◌, ◌<◌, min, ◌≡◌, refl, get_or, drop, set}
use mathlib.Core.List.{List, [], ◌∷◌, ◌++◌}
use Rattle.std.proofs.Math.Bool.{true, false}
use Rattle.std.proofs.Common.{sym, ◌∙◌}
use Rattle.std.proofs.Math.Path.{ap}
use native.Mathlib.Omega.{arith}
use Rattle.std.proofs.Math.Dec.{eqb}
use Rattle.std.proofs.Math.ListN.{length, get_or-append, get_or-eq_default}
use Rattle.std.proofs.lemmas.List.{get_or_at}
use borrow.Author.Tests.{eq-eqb, ne_eqb, le-leb, lt-leb}
use Rattle.lists.specs.Four.{four, at, four_same}
use Rattle.lists.specs.Grow.{length_snoc}
use Rattle.npy_grammar.specs.Text.{is_blank}
use Rattle.npy_grammar.specs.Reading.{strip, eat, peek, past_number, number_at, Got, got, past_comma, more_numbers, inside_tuple, read_tuple}
use Rattle.npy_header.specs.declared.Shape.{Shape}
use Rattle.npy_header.specs.declared.Listed.{Listed}
use Rattle.npy_pieces.specs.Places.{At, at_end}

-- the list l as it is kept
pub record Kept (l : List ℕ) (s : Shape) : Type 0 where
  pub vars : s.vars ≡ min (length l) 5
  pub n : s.n ≡ four (λ k. get_or l k 1)

abbrev pub shape_of : ℕ → List ℕ → Shape
shape_of v n = record { vars = v; n = n }

pub kept-none : Kept [] (shape_of 0 (1 ∷ 1 ∷ 1 ∷ 1 ∷ []))
kept-none = record { vars = refl; n = refl }

module _ {l : List ℕ} {s : Shape} (k : Kept l s) (x : ℕ) where
  more : List ℕ
  more = l ++ (x ∷ [])

  snoc-before : (i : ℕ) → i < length l → get_or (l ++ (x ∷ [])) i 1 ≡ get_or l i 1
  snoc-before i h = get_or-append l (x ∷ []) 1 i h

  snoc-here : (i : ℕ) → length l ≡ i → get_or (l ++ (x ∷ [])) i 1 ≡ x
  snoc-here i e = get_or_at l x [] 1 i e

  snoc-past : (i : ℕ) → length l < i → get_or (l ++ (x ∷ [])) i 1 ≡ get_or l i 1
  snoc-past i h =
      get_or-eq_default (l ++ (x ∷ [])) 1 (omega (arith, length_snoc l x)) ∙ sym (get_or-eq_default l 1 (omega arith))

  pub kept_full : 4 ≤ s.vars → Kept (l ++ (x ∷ [])) (shape_of 5 s.n)
  kept_full h =
      let v = k.vars in
      let m : 4 ≤ length l = omega (arith, h, v) in
      record {
        vars = omega (arith, length_snoc l x);
        n = k.n ∙ four_same (λ i. get_or l i 1) (λ i. get_or (l ++ (x ∷ [])) i 1) (λ i j. sym (snoc-before i (omega arith)));
      }

  set-four : (v : ℕ) → v < 4 → length l ≡ v → set (four (λ i. get_or l i 1)) v x ≡ four (λ i. get_or (l ++ (x ∷ [])) i 1)
  set-four zero h e = rw (snoc-here 0 e, snoc-past 1 (omega arith), snoc-past 2 (omega arith), snoc-past 3 (omega arith))
  set-four (suc zero) h e = rw (snoc-before 0 (omega arith), snoc-here 1 e, snoc-past 2 (omega arith), snoc-past 3 (omega arith))
  set-four (suc (suc zero)) h e = rw (snoc-before 0 (omega arith), snoc-before 1 (omega arith), snoc-here 2 e, snoc-past 3 (omega arith))
  set-four (suc (suc (suc zero))) h e = rw (snoc-before 0 (omega arith), snoc-before 1 (omega arith), snoc-before 2 (omega arith), snoc-here 3 e)
  set-four (suc (suc (suc (suc v)))) h e = absurd (omega (arith, h))

  pub kept_more : s.vars < 4 → Kept (l ++ (x ∷ [])) (shape_of (s.vars + 1) (set s.n s.vars x))
  kept_more h =
      let v = k.vars in
      let m : length l ≡ s.vars = omega (arith, h, v) in
      record {
        vars = omega (arith, length_snoc l x, m);
        n = ap (λ (y : List ℕ). set y s.vars x) k.n ∙ set-four s.vars h m;
      }

-- ---- tuples

-- the place and the numbers
pub record ListedAt (t : List ℕ) (r : Listed) (g : Got) : Type 0 where
  pub place : At t r.at g.rest
  pub kept : Kept g.shape r.shape

pub record MoreListed (t : List ℕ) (p : ℕ) (s : Shape) (r : Listed) : Type 0 where
  pub most : r.at ≤ length t
  pub listed : (l : List ℕ) → Kept l s → ListedAt t r (more_numbers (length t) l (drop p t))

-- after some turns, from the list l on: what is left to read
pub record From (t : List ℕ) (g : Got) (turn p : ℕ) (s : Shape) : Type 0 where
  pub so_far : List ℕ
  pub kept : Kept so_far s
  pub left : g ≡ more_numbers (length t - turn) so_far (drop p t)

pub record Listing (t : List ℕ) (at : ℕ) (first : Shape) (turn p : ℕ) (held : Shape) : Type 0 where
  pub turns : turn ≤ length t
  pub inside : p ≤ length t
  pub reads : (l : List ℕ) → Kept l first → From t (more_numbers (length t) l (drop at t)) turn p held

pub listing_none : (t : List ℕ) (at : ℕ) (s : Shape) → at ≤ length t → Listing t at s 0 at s
listing_none t at s h =
    record {
      turns = omega arith;
      inside = h;
      reads = λ l k. record { so_far = l; kept = k; left = let e : length t - 0 ≡ length t = omega arith in rw e };
    }

abbrev pub listed_of : ℕ → Shape → Listed
listed_of p s = record { at = p; shape = s }

module _ (t : List ℕ) {at : ℕ} {first held : Shape} {turn p : ℕ} (c : Listing t at first turn p held) where
  -- no turn is left
  pub listing-over : length t ≤ turn → MoreListed t at first (listed_of (length t) held)
  unfolding more_numbers
  listing-over h =
      record {
        most = omega arith;
        listed = λ l k.
            let f = c.reads l k in
            let e : length t - turn ≡ 0 = omega arith in
            let g : more_numbers (length t) l (drop at t) ≡ got [] f.so_far = f.left ∙ ap (λ (m : ℕ). more_numbers m f.so_far (drop p t)) e in
            rw g (record { place = at_end t; kept = f.kept });
      }

  module _ (turned : turn < length t) where
    one-turn : (l : List ℕ) (k : Kept l first)
        → more_numbers (length t) l (drop at t) ≡ more_numbers (suc (length t - (turn + 1)))
        (c.reads l k).so_far (drop p t)
    one-turn l k =
        let e : length t - turn ≡ suc (length t - (turn + 1)) = omega arith in
        (c.reads l k).left ∙ ap (λ (m : ℕ). more_numbers m (c.reads l k).so_far (drop p t)) e

    module _ {q y : ℕ} (a : At t q (strip is_blank (drop p t))) (ey : y ≡ peek (drop q t)) where
      peeked : peek (strip is_blank (drop p t)) ≡ y
      peeked = sym (ey ∙ ap peek a.left)

      module _ (n : y ≡ 44 → ⊥) where
        no-comma : eqb (peek (strip is_blank (drop p t))) 44 ≡ false
        no-comma = ap (λ (z : ℕ). eqb z 44) peeked ∙ ne_eqb y 44 n

        pub listing-few : held.vars < 2 → MoreListed t at first (listed_of (length t) held)
        unfolding more_numbers
        listing-few h =
            record {
              most = omega arith;
              listed = λ l k.
                  let f = c.reads l k in
                  let m : length f.so_far < 2 = omega (arith, h, f.kept.vars) in
                  let g : more_numbers (length t) l (drop at t) ≡ got [] f.so_far = one-turn l k ∙ rw (no-comma, lt-leb 2 (length f.so_far) m) in
                  rw g (record { place = at_end t; kept = f.kept });
            }

        pub listing-bare : {z : ℕ} → 2 ≤ held.vars → At t z (eat 41 (drop q t)) → MoreListed t at first (listed_of z held)
        unfolding more_numbers
        listing-bare {z} h b =
            record {
              most = b.most;
              listed = λ l k.
                  let f = c.reads l k in
                  let m : 2 ≤ length f.so_far = omega (arith, h, f.kept.vars) in
                  let g : more_numbers (length t) l (drop at t) ≡ got (eat 41 (strip is_blank (drop p t))) f.so_far =
                  one-turn l k ∙ rw (no-comma, le-leb 2 (length f.so_far) m) in
                  rw g (record { place = record { most = b.most; left = b.left ∙ ap (eat 41) a.left }; kept = f.kept });
            }

      module _ (i : y ≡ 44) {b x : ℕ} (d : At t b (past_comma (drop p t))) (ex : x ≡ peek (drop b t)) where
        is-comma : eqb (peek (strip is_blank (drop p t))) 44 ≡ true
        is-comma = ap (λ (z : ℕ). eqb z 44) peeked ∙ eq-eqb y 44 i

        behind : peek (past_comma (drop p t)) ≡ x
        behind = sym (ex ∙ ap peek d.left)

        pub listing-comma : {z : ℕ} → x ≡ 41 → At t z (eat 41 (drop b t)) → MoreListed t at first (listed_of z held)
        unfolding more_numbers
        listing-comma {z} o w =
            record {
              most = w.most;
              listed = λ l k.
                  let f = c.reads l k in
                  let j : eqb (peek (past_comma (drop p t))) 41 ≡ true = ap (λ (z : ℕ). eqb z 41) behind ∙ eq-eqb x 41 o in
                  let g : more_numbers (length t) l (drop at t) ≡ got (eat 41 (past_comma (drop p t))) f.so_far = one-turn l k ∙ rw (is-comma, j) in
                  rw g (record { place = record { most = w.most; left = w.left ∙ ap (eat 41) d.left }; kept = f.kept });
            }

        pub listing-more : {v z : ℕ} {s : Shape} → (x ≡ 41 → ⊥) → v ≡ number_at (drop b t)
            → ((l : List ℕ) → Kept l held → Kept (l ++ (v ∷ [])) s) → At t z (past_number (drop b t))
            → Listing t at first (turn + 1) z s
        unfolding more_numbers
        listing-more {v} {z} {s} o ev push w =
            record {
              turns = omega arith;
              inside = w.most;
              reads = λ l k.
                  let f = c.reads l k in
                  let j : eqb (peek (past_comma (drop p t))) 41 ≡ false = ap (λ (z : ℕ). eqb z 41) behind ∙ ne_eqb x 41 o in
                  record {
                    so_far = f.so_far ++ (v ∷ []);
                    kept = push f.so_far f.kept;
                    left =
                        one-turn l k
                        ∙ (rw (is-comma, j)
                        (ap (λ (y : List ℕ). more_numbers (length t - (turn + 1)) (f.so_far ++ (number_at y ∷ [])) (past_number y)) (sym d.left)
                        ∙ (ap (λ (y : ℕ). more_numbers (length t - (turn + 1)) (f.so_far ++ (y ∷ [])) (past_number (drop b t))) (sym ev)
                        ∙ ap (more_numbers (length t - (turn + 1)) (f.so_far ++ (v ∷ []))) (sym w.left))));
                  };
            }

module _ (t : List ℕ) (at : ℕ) {b y : ℕ} (a : At t b (strip is_blank (eat 40 (drop at t)))) (ey : y ≡ peek (drop b t)) where
  seen : peek (strip is_blank (eat 40 (drop at t))) ≡ y
  seen = sym (ey ∙ ap peek a.left)

  pub tuple-none : {z : ℕ} {s : Shape} → y ≡ 41 → At t z (eat 41 (drop b t)) → Kept [] s → ListedAt t (listed_of z s) (read_tuple (length t) (drop at t))
  unfolding inside_tuple
  tuple-none {z} {s} i w k =
      let j : eqb (peek (strip is_blank (eat 40 (drop at t)))) 41 ≡ true = ap (λ (x : ℕ). eqb x 41) seen ∙ eq-eqb y 41 i in
      rw j (record { place = record { most = w.most; left = w.left ∙ ap (eat 41) a.left }; kept = k })

  pub tuple-some : {v q : ℕ} {s : Shape} {r : Listed} → (y ≡ 41 → ⊥) → v ≡ number_at (drop b t) → Kept (v ∷ []) s
      → At t q (past_number (drop b t)) → MoreListed t q s r
      → ListedAt t r (read_tuple (length t) (drop at t))
  unfolding inside_tuple
  tuple-some {v} {q} {s} {r} n ev k w m =
      let j : eqb (peek (strip is_blank (eat 40 (drop at t)))) 41 ≡ false = ap (λ (x : ℕ). eqb x 41) seen ∙ ne_eqb y 41 n in
      let e : more_numbers (length t) (v ∷ []) (drop q t)
      ≡ more_numbers (length t) (number_at (strip is_blank (eat 40 (drop at t))) ∷ [])
      (past_number (strip is_blank (eat 40 (drop at t)))) =
      ap (more_numbers (length t) (v ∷ [])) w.left
      ∙ (ap (λ (x : ℕ). more_numbers (length t) (x ∷ []) (past_number (drop b t))) ev
      ∙ ap (λ (l : List ℕ). more_numbers (length t) (number_at l ∷ []) (past_number l)) a.left) in
      rw (j, ← e) (m.listed (v ∷ []) k)
