-- The header that is written is a right text of the grammar.
use Rattle.std.specs.Prelude.{ℕ, zero, suc, ◌+◌, ◌-◌, ◌*◌, ◌/◌, ◌%◌, ◌^◌, ◌≤◌, ◌<◌, Bool, true, false, ◌&&◌, ◌≡◌, leb, ltb, eqb}
use mathlib.Core.List.{List, [], ◌∷◌, ◌++◌, append_assoc, append-nil, map}
use Rattle.std.proofs.Math.Path.{refl, sym, ap}
use Rattle.std.proofs.Common.{ap₂, ◌∙◌, subst, arith, leb-true, le-leb, ne_eqb, ltb-true, ltb-false}
use Rattle.std.proofs.Math.ListN.{length}
use Rattle.lists.specs.Bytes.{bytes}
use Rattle.lists.specs.Table.{table}
use Rattle.lists.specs.Test.{decide, and_left, and_right}
use Rattle.model_texts.specs.Printed.{last_digit, decimal}
use Rattle.sheet_text.specs.Decimal.{decimal_digit, decimal-more}
use Rattle.npy_grammar.specs.Text as text
use Rattle.npy_grammar.specs.Text.{is_space, is_lead, is_blank, is_digit, all, Run, Blanks, Number, nought, counted}
use Rattle.npy_grammar.specs.Text.{number_text, digits_value, number_value, Close, bare, comma, close_text, Next, next_text}
use Rattle.npy_grammar.specs.Text.{nexts_text, Tuple, none, one, several, tuple_text, nexts_value, tuple_value, Quote}
use Rattle.npy_grammar.specs.Text.{single, double, quote_byte, quoted, width_word, order_word, key_word, Written, a_width}
use Rattle.npy_grammar.specs.Text.{an_order, a_shape, value_text, key_of, Agrees, Item, item_text, Apart, Header}
use Rattle.npy_grammar.specs.Text.{header_text, Right, Values}
use Rattle.npy_files.specs.Shapes.{all_in_range}
use Rattle.npy_files.specs.Writes.{followed, listed, closing, tuple_out, dict_out, head_out}

no-blanks : Blanks
unfolding all
no-blanks = record { bytes = []; only = refl }

one-space : Blanks
unfolding all is_blank
one-space = record { bytes = 32 ∷ []; only = refl }

-- ---- numbers

record Spelt (x : ℕ) : Type 0 where
  pub number : Number
  pub text : (u : List ℕ) → number_text number u ≡ decimal x ++ u
  pub value : number_value number ≡ x

digit-is : (n : ℕ) → is_digit (last_digit n) ≡ true
unfolding is_digit
digit-is n = rw (le-leb 48 (last_digit n) (omega arith), le-leb (last_digit n) 57 (omega arith))

no-nought : (n : ℕ) → 1 ≤ n → n < 10 → eqb (last_digit n) 48 ≡ false
no-nought n h l = ne_eqb (last_digit n) 48 (λ e. omega arith)

spelt-one : (x : ℕ) → 1 ≤ x → x < 10 → Spelt x
unfolding number_text number_value digits_value all
spelt-one x h l =
    record {
      number = counted (last_digit x) (digit-is x) (no-nought x h l) (record { bytes = []; only = refl });
      text = λ u. sym (ap (λ (d : List ℕ). d ++ u) (decimal_digit x l));
      value = omega arith;
    }

spelt-two : (x : ℕ) → 10 ≤ x → x < 100 → Spelt x
unfolding number_text number_value digits_value all
spelt-two x h l =
    let t : x / 10 < 10 = omega arith in
    let o : 1 ≤ x / 10 = omega arith in
    let d : decimal x ≡ last_digit (x / 10) ∷ last_digit x ∷ [] =
    decimal-more x h (omega arith) ∙ ap (λ (k : List ℕ). k ++ (last_digit x ∷ [])) (decimal_digit (x / 10) t) in
    record {
      number = counted (last_digit (x / 10)) (digit-is (x / 10)) (no-nought (x / 10) o t) (record { bytes = last_digit x ∷ []; only = rw (digit-is x) });
      text = λ u. sym (ap (λ (k : List ℕ). k ++ u) d);
      value = omega arith;
    }

spelt : (x : ℕ) → 1 ≤ x → x ≤ 64 → Spelt x
spelt x h l = decide (ltb x 10) (λ t. spelt-one x h (ltb-true x 10 t)) (λ t. spelt-two x (ltb-false x 10 t) (omega arith))

-- ---- tuples

record SpeltNexts (s : List ℕ) : Type 0 where
  pub nexts : List Next
  pub text : (u : List ℕ) → nexts_text nexts u ≡ followed s ++ u
  pub value : nexts_value nexts ≡ s

spelt-nexts : (s : List ℕ) → all_in_range s ≡ true → SpeltNexts s
unfolding all_in_range nexts_text next_text nexts_value followed no-blanks one-space
spelt-nexts [] h = record { nexts = []; text = λ u. refl; value = refl }
spelt-nexts (x ∷ s) h =
    let e = and_left (leb 1 x && leb x 64) (all_in_range s) h in
    let n = spelt x (leb-true 1 x (and_left (leb 1 x) (leb x 64) e)) (leb-true x 64 (and_right (leb 1 x) (leb x 64) e)) in
    let r = spelt-nexts s (and_right (leb 1 x && leb x 64) (all_in_range s) h) in
    record {
      nexts = record { before = no-blanks; behind = one-space; number = n.number } ∷ r.nexts;
      text =
          λ u. ap (λ (k : List ℕ). 44 ∷ 32 ∷ k) (n.text (nexts_text r.nexts u)
          ∙ (ap (λ (k : List ℕ). decimal x ++ k) (r.text u) ∙ sym (append_assoc (decimal x) (followed s) u)));
      value = ap₂ ◌∷◌ n.value r.value;
    }

pub record SpeltTuple (s : List ℕ) : Type 0 where
  pub tuple : Tuple
  pub text : (u : List ℕ) → tuple_text tuple u ≡ tuple_out s ++ u
  pub value : tuple_value tuple ≡ s

ranged : (x : ℕ) (s : List ℕ) → all_in_range (x ∷ s) ≡ true → Spelt x
unfolding all_in_range
ranged x s h =
    let e = and_left (leb 1 x && leb x 64) (all_in_range s) h in
    spelt x (leb-true 1 x (and_left (leb 1 x) (leb x 64) e)) (leb-true x 64 (and_right (leb 1 x) (leb x 64) e))

rest : (x : ℕ) (s : List ℕ) → all_in_range (x ∷ s) ≡ true → all_in_range s ≡ true
unfolding all_in_range
rest x s h = and_right (leb 1 x && leb x 64) (all_in_range s) h

one_text_lem : (x : ℕ) (u : List ℕ) → decimal x ++ (44 ∷ 41 ∷ u) ≡ (listed (x ∷ []) ++ (44 ∷ 41 ∷ [])) ++ u
unfolding listed followed
one_text_lem x u = sym (append_assoc (decimal x ++ []) (44 ∷ 41 ∷ []) u ∙ ap (λ (k : List ℕ). k ++ (44 ∷ 41 ∷ u)) (append-nil (decimal x)))

several-text : (x : ℕ) (s u : List ℕ) → decimal x ++ (followed s ++ (41 ∷ u)) ≡ (listed (x ∷ s) ++ (41 ∷ [])) ++ u
unfolding listed
several-text x s u = sym (append_assoc (decimal x ++ followed s) (41 ∷ []) u ∙ append_assoc (decimal x) (followed s) (41 ∷ u))

spelt-tuple-none : SpeltTuple []
unfolding tuple_text tuple_value tuple_out listed closing no-blanks
spelt-tuple-none = record { tuple = none no-blanks; text = λ u. refl; value = refl }

spelt-tuple-one : (x : ℕ) → all_in_range (x ∷ []) ≡ true → SpeltTuple (x ∷ [])
unfolding tuple_text tuple_value tuple_out closing close_text no-blanks
spelt-tuple-one x h =
    let n = ranged x [] h in
    record {
      tuple = one no-blanks n.number no-blanks no-blanks;
      text = λ u. ap (λ (k : List ℕ). 40 ∷ k) (n.text (44 ∷ 41 ∷ u) ∙ one_text_lem x u);
      value = ap (λ (k : ℕ). k ∷ []) n.value;
    }

spelt-tuple-more : (x y : ℕ) (s : List ℕ) → all_in_range (x ∷ (y ∷ s)) ≡ true → SpeltTuple (x ∷ (y ∷ s))
unfolding tuple_text tuple_value tuple_out closing close_text next_text nexts_value followed no-blanks one-space
spelt-tuple-more x y s h =
    let n = ranged x (y ∷ s) h in
    let g = rest x (y ∷ s) h in
    let m = ranged y s g in
    let r = spelt-nexts s (rest y s g) in
    record {
      tuple = several no-blanks n.number (record { before = no-blanks; behind = one-space; number = m.number }) r.nexts (bare no-blanks);
      text = λ u.
          ap (λ (k : List ℕ). 40 ∷ k)
          (n.text (44 ∷ 32 ∷ number_text m.number (nexts_text r.nexts (41 ∷ u)))
          ∙ (ap (λ (k : List ℕ). decimal x ++ (44 ∷ 32 ∷ k))
          (m.text (nexts_text r.nexts (41 ∷ u))
          ∙ (ap (λ (k : List ℕ). decimal y ++ k) (r.text (41 ∷ u))
          ∙ sym (append_assoc (decimal y) (followed s) (41 ∷ u))))
          ∙ several-text x (y ∷ s) u));
      value = ap₂ (λ (a : ℕ) (b : List ℕ). a ∷ b) n.value (ap₂ (λ (a : ℕ) (b : List ℕ). a ∷ b) m.value r.value);
    }

pub spelt-tuple : (s : List ℕ) → all_in_range s ≡ true → SpeltTuple s
spelt-tuple [] h = spelt-tuple-none
spelt-tuple (x ∷ []) h = spelt-tuple-one x h
spelt-tuple (x ∷ (y ∷ s)) h = spelt-tuple-more x y s h

-- ---- the header

spaces-only : (n : ℕ) → all is_space (table n (λ k. 32)) ≡ true
unfolding table all is_space
spaces-only zero = refl
spaces-only (suc n) = all_snoc (table n (λ k. 32)) (spaces-only n)
  where
    all_snoc : (t : List ℕ) → all is_space t ≡ true → all is_space (t ++ (32 ∷ [])) ≡ true
    all_snoc [] h = refl
    all_snoc (b ∷ t) h = rw (and_left (is_space b) (all is_space t) h, all_snoc t (and_right (is_space b) (all is_space t) h))

apart_keys : {a b : text.Key} → (a ≡ b → ◌≡◌ {A = ℕ} 0 1) → Apart a b
unfolding Apart
apart_keys f e = let z = f e in omega arith

module _ (s : List ℕ) (h : all_in_range s ≡ true) (n : ℕ) where
  abbrev spaces : List ℕ
  spaces = table (n - 1 - length (dict_out s)) (λ k. 32)

  written : Header
  unfolding all key_of
  written =
      record {
        lead = record { bytes = []; only = refl };
        first = record { before = no-blanks; quote = single; colon = no-blanks; behind = one-space; written = a_width single text.eight };
        comma₁ = no-blanks;
        second = record { before = one-space; quote = single; colon = no-blanks; behind = one-space; written = an_order text.rows };
        comma₂ = no-blanks;
        third = record { before = one-space; quote = single; colon = no-blanks; behind = one-space; written = a_shape (spelt-tuple s h).tuple };
        close = comma no-blanks one-space;
        pad = record { bytes = spaces; only = spaces-only (n - 1 - length (dict_out s)) };
        apart₁ = apart_keys (λ e. cc);
        apart₂ = apart_keys (λ e. cc);
        apart₃ = apart_keys (λ e. cc);
      }

  pub written-right : Right (head_out n s) (record { width = text.eight; order = text.rows; shape = s })
  unfolding written header_text item_text quoted quote_byte key_word key_of value_text width_word order_word close_text head_out dict_out
      bytes Agrees no-blanks one-space
  written-right =
      record {
        header = written;
        text = ap (λ (k : List ℕ). bytes "{'descr': '<f8', 'fortran_order': False, 'shape': " ++ k)
            (append_assoc (tuple_out s) (44 ∷ 32 ∷ 125 ∷ []) (spaces ++ (10 ∷ [])) ∙ sym ((spelt-tuple s h).text (44 ∷ 32 ∷ 125 ∷ (spaces ++ (10 ∷ [])))));
        says₁ = refl;
        says₂ = refl;
        says₃ = (spelt-tuple s h).value;
      }
