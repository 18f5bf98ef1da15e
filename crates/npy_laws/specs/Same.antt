-- Two files whose headers say the same, whatever their blanks, order of keys, quotes and closing commas, and whose data
-- are the same, read the same; limits are the shape; and every byte of a file that is read is accounted for.
use Rattle.std.specs.Prelude.{Ok, Err, ℕ, zero, suc, ◌+◌, ◌-◌, ◌*◌, ◌≤◌, ◌<◌, List, [], ◌∷◌, ◌++◌, Bool, true, false, ◌&&◌}
use Rattle.std.specs.Prelude.{◌||◌, ◌≡◌, refl, leb, eqb, length, get_or, take, drop, Float}
use Rattle.std.proofs.Common.{sym, ap, ap₂, ◌∙◌, subst, arith, length-drop, take-append-drop, get_or-drop, drop-drop, eqb-true, eq-eqb, ne_eqb, leb-true}
use Rattle.std.specs.Float.Ieee.{of_bits}
use Rattle.std.specs.Float.{binary32, binary64}
use Rattle.std.proofs.lemmas.Bool.{eqb-false}
use Rattle.lists.specs.Table.{table, table_same}
use Rattle.lists.specs.Test.{and_left, and_right, decide}
use Rattle.model.specs.Results.{Answer}
use Rattle.model.specs.Refusals.{refused_by}
use Rattle.model.specs.Word.{word_of}
use Rattle.npy_grammar.specs.Text.{Width, eight, four, Order, Values, Right}
use Rattle.npy_files.specs.Frame.{byte_at, little, is_version, head_start, head_length, data_start, is_framed, head_text}
use Rattle.npy_files.specs.Shapes.{product, head_of}
use Rattle.npy_files.specs.Values.{bytes_of, value_at, file_place, file_value, data_fits}
use Rattle.npy_files.specs.Reads.{Says, is_room, read_answer, read_out, Reading}
use Rattle.npy_files.specs.Once.{says-room, says-one, room-good, reading-once}

-- the bytes behind the header
abbrev pub data_of : List ℕ → List ℕ
data_of t = drop (data_start t) t

little-drop : (n d : ℕ) (t : List ℕ) (p : ℕ) → little n (drop d t) p ≡ little n t (d + p)
unfolding little
little-drop zero d t p = refl
little-drop (suc n) d t p = let e : d + suc p ≡ suc (d + p) = omega arith in rw (get_or-drop d t p 0, little-drop n d t (suc p), e)

-- values are read off the data alone
value_same : (w : Width) (t r : List ℕ) → data_of t ≡ data_of r → (k : ℕ) → value_at w t (data_start t) k ≡ value_at w r (data_start r) k
unfolding value_at
value_same eight t r e k =
    ap (of_bits binary64) (sym (little-drop 8 (data_start t) t (8 * k)) ∙ (ap (λ (l : List ℕ). little 8 l (8 * k)) e ∙ little-drop 8 (data_start r) r (8 * k)))
value_same four t r e k =
    ap (of_bits binary32) (sym (little-drop 4 (data_start t) t (4 * k)) ∙ (ap (λ (l : List ℕ). little 4 l (4 * k)) e ∙ little-drop 4 (data_start r) r (4 * k)))

framed-long : (t : List ℕ) → is_framed t ≡ true → data_start t ≤ length t
unfolding is_framed
framed-long t f =
    leb-true (data_start t) (length t) (and_right ((is_version 1 t || is_version 2 t) && leb (head_start t) (length t))
    (leb (data_start t) (length t)) f)

-- so is whether they fit
fits_data : (t : List ℕ) (v : Values) → is_framed t ≡ true → data_fits t v ≡ eqb (length (data_of t)) (bytes_of v.width * product v.shape)
unfolding data_fits
fits_data t v f =
    add-test (data_start t) (length t) (length (data_of t)) (bytes_of v.width * product v.shape)
    (let l = framed-long t f in omega (arith, l, length-drop (data_start t) t))
  where
    add-test : (d n m c : ℕ) → n ≡ d + m → eqb n (d + c) ≡ eqb m c
    add-test d n m c e =
        decide (eqb m c)
        (λ t. let k = eqb-true m c t in rw (t, eq-eqb n (d + c) (omega arith)))
        (λ t. let k = eqb-false m c t in rw (t, ne_eqb n (d + c) (λ h. k (omega arith))))

module _ {t r : List ℕ} {v : Values} (a : Says t v) (b : Says r v) (e : data_of t ≡ data_of r) where
  out-same : (old : List Float) → table (product v.shape) (file_value t v) ++ drop (product v.shape) old
      ≡ table (product v.shape) (file_value r v) ++ drop (product v.shape) old
  out-same old =
      ap (λ (l : List Float). l ++ drop (product v.shape) old)
      (table_same (file_value t v) (file_value r v) (product v.shape) (λ i l. value_same v.width t r e (file_place v.order _ i)))

  fits-same : data_fits r v ≡ data_fits t v
  fits-same =
      fits_data r v b.framed ∙ (ap (λ (l : List ℕ). eqb (length l) (bytes_of v.width * product v.shape)) (sym e)
      ∙ sym (fits_data t v a.framed))

  -- every outcome of the one is an outcome of the other
  carried_lem : {old new : List Float} {x : Answer} → Reading t old x new → Reading r old x new
  carried_lem {old} (Reading.other n) = absurd (n v a)
  carried_lem {old} (Reading.sizes w s f) = Reading.sizes v b (sym (says-room s a (length old)) ∙ f)
  carried_lem {old} (Reading.unlike w s f g) =
      let k : w ≡ v = says-one s a (room-good w (length old) f) in
      Reading.unlike v b (sym (says-room s a (length old)) ∙ f) (fits-same ∙ (ap (data_fits t) (sym k) ∙ g))
  carried_lem {old} (Reading.done w s f g) =
      let k : w ≡ v = says-one s a (room-good w (length old) f) in
      let m : Reading r old (read_answer v) (read_out r old v) =
      Reading.done v b (sym (says-room s a (length old)) ∙ f) (fits-same ∙ (ap (data_fits t) (sym k) ∙ g)) in
      let n : Reading r old (read_answer v) (read_out t old v) = subst (λ (l : List Float). Reading r old (read_answer v) l) (sym (out-same old)) m in
      subst (λ (z : Values). Reading r old (read_answer z) (read_out t old z)) (sym k) n

  -- two spellings of one header over the same data
  pub same_read : {old x y : List Float} {p q : Answer} → Reading t old p x → Reading r old q y → (p ≡ q) × (x ≡ y)
  same_read m n = reading-once (carried_lem m) n

-- ---- a file that is read

framed-version : (t : List ℕ) → is_framed t ≡ true → (is_version 1 t || is_version 2 t) ≡ true
unfolding is_framed
framed-version t f =
    and_left (is_version 1 t || is_version 2 t) (leb (head_start t) (length t))
    (and_left ((is_version 1 t || is_version 2 t) && leb (head_start t) (length t)) (leb (data_start t) (length t)) f)

cut-three : (t : List ℕ) → t ≡ take (head_start t) t ++ (head_text t ++ data_of t)
unfolding head_text
cut-three t =
    let h : ℕ = head_start t in
    let n : ℕ = head_length t in
    sym (ap (λ (l : List ℕ). take h t ++ (take n (drop h t) ++ l)) (sym (drop-drop n h t))
    ∙ (ap (λ (l : List ℕ). take h t ++ l) (take-append-drop n (drop h t)) ∙ take-append-drop h t))

pub record Accounted (t : List ℕ) (w : ℕ) : Type 0 where
  pub values : Values
  pub begins : (is_version 1 t || is_version 2 t) ≡ true
  pub parts : t ≡ take (head_start t) t ++ (head_text t ++ data_of t)
  pub header : Right (head_text t) values
  pub bytes : length (data_of t) ≡ bytes_of values.width * product values.shape
  pub word : w ≡ word_of (head_of values.shape)

-- the opening bytes and the length, the header's text, the data of the shape, and nothing behind them; the header
-- word's limits and lengths are the shape
pub accounted : {t : List ℕ} {old new : List Float} {w : ℕ} → Reading t old (Ok w) new → Accounted t w
accounted {t} (Reading.done v s f g) =
    record {
      values = v;
      begins = framed-version t s.framed;
      parts = cut-three t;
      header = s.right;
      bytes = eqb-true (length (data_of t)) (bytes_of v.width * product v.shape) (sym (fits_data t v s.framed) ∙ g);
      word = refl;
    }
