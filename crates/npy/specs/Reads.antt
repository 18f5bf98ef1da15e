-- The outcomes of reading, from what the code found.
use Rattle.std.specs.Prelude.{Ok, Err, ℕ, ◌+◌, ◌*◌, ◌≤◌, ◌<◌, List, [], ◌∷◌, ◌++◌, Bool, true, false, ◌&&◌, ◌≡◌, refl, leb, eqb, length, drop, Float}
use Rattle.std.proofs.Math.Path.{sym}
use Rattle.std.proofs.Common.{ap, ap₂, ◌∙◌, subst, arith, mul-le-mul}
use borrow.Author.Tests.{le-leb, lt-leb, eq-eqb, ne_eqb}
use Rattle.lists.specs.Table.{table, table_same}
use Rattle.lists.specs.Test.{and_left, and_right}
use Rattle.model.specs.Results.{Answer}
use Rattle.model.specs.declared.Header.{Header}
use Rattle.model.specs.declared.Refusal.{Refusal}
use Rattle.model.specs.Header.{header, count, stored, good_header}
use Rattle.model.specs.Refusals.{refused_by}
use Rattle.model.specs.Word.{word_of}
use Rattle.shape_words.specs.Rules.{Ruled}
use Rattle.shape_words.specs.Lengths.{Lengths, lengths_of_lem}
use Rattle.npy_grammar.specs.Text.{Width, eight, four, Order, rows, columns, Values}
use Rattle.npy_header.specs.declared.Shape.{Shape}
use Rattle.npy_files.specs.Frame.{data_start}
use Rattle.npy_files.specs.Shapes.{product, good_shape, lengths_of, head_of}
use Rattle.npy_files.specs.Values.{bytes_of, value_at, file_place, file_value, data_fits}
use Rattle.npy_files.specs.Reads.{Says, is_room, Reading}
use Rattle.npy_columns.specs.Lines.{width_of, order_of, values_of, ColumnsFit}
use Rattle.npy_grammar.specs.Items.{width_number, order_number}
use Rattle.npy_reading.specs.declared.Opened.{Opened}
use Rattle.npy_reading.specs.Opening.{Opening, Opens}
use Rattle.npy_reading.specs.Heads.{HeadKept, head-good, head-is, good-most, shape-count, shape-regular}

-- the numbers of the code say what the header says
width_back : (w : Width) → width_of (width_number w) ≡ w
unfolding width_of width_number
width_back eight = refl
width_back four = refl

order-back : (o : Order) → order_of (order_number o) ≡ o
unfolding order_of order_number
order-back rows = refl
order-back columns = refl

width-bytes : (w : Width) → width_number w ≡ bytes_of w
unfolding width_number bytes_of
width-bytes eight = refl
width-bytes four = refl

width-most : (w : Width) → width_number w ≤ 8
unfolding width_number
width-most eight = omega arith
width-most four = omega arith

ends_same : {d d' b b' c c' : ℕ} → d' ≡ d → b' ≡ b → c' ≡ c → d + b * c ≡ d' + b' * c'
ends_same e f g = rw (e, f, g)

values_same : (t : List ℕ) {w w' : Width} {o o' : Order} {d d' : ℕ} {n n' : List ℕ} {m m' : ℕ} → w' ≡ w → o' ≡ o → d' ≡ d → n' ≡ n → m' ≡ m
    → table m' (values_of w' o' t d' n') ≡ table m (values_of w o t d n)
values_same t a b e f g = rw (a, b, e, f, g)

-- a refusal as the code makes it
pub refused : {t : List ℕ} {old : List Float} (n : ℕ) {r : Refusal} → r ≡ refused_by n
    → Reading t old (Err (refused_by n)) old → Reading t old (Err r) old
refused {t} {old} n e h = subst (λ (r : Refusal). Reading t old (Err r) old) (sym e) h

module _ (t : List ℕ) (old : List Float) {o : Opened} (opens : Opens t o) where
  pub read-other : o.right ≡ false → Reading t old (Err (refused_by 10)) old
  read-other e = Reading.other (opens.complete e)

  module _ (right : o.right ≡ true) {h : Header} (kept : HeadKept o.shape h) {g : Bool} (eg : g ≡ good_header h) where
    abbrev found : Opening t o
    found = opens.sound right

    abbrev v : Values
    v = found.values

    good-is : g ≡ good_shape v.shape
    good-is = eg ∙ head-good v.shape found.kept kept

    pub read-sizes : g ≡ false → Reading t old (Err (refused_by 5)) old
    unfolding is_room
    read-sizes e = Reading.sizes v found.says (rw (sym good-is ∙ e))

    module _ (good : g ≡ true) where
      good_shape_lem : good_shape v.shape ≡ true
      good_shape_lem = sym good-is ∙ good

      pub head-here : h ≡ head_of v.shape
      head-here = head-is v.shape found.kept kept good_shape_lem

      pub head_ruled : Ruled h
      head_ruled = subst Ruled (sym head-here) (shape-regular v.shape good_shape_lem).rules

      pub head-lengths : Lengths o.shape.n
      head-lengths = subst (λ (x : Header). Lengths x.lengths) kept (lengths_of_lem head_ruled)

      module _ {c : ℕ} (ec : c ≡ count o.shape.n) where
        count-here : c ≡ product v.shape
        count-here =
            ec
            ∙ (ap (λ (x : Header). stored x) (sym kept) ∙ (ap (λ (x : Header). stored x) head-here ∙ shape-count v.shape good_shape_lem))

        pub read_short : length old < c → Reading t old (Err (refused_by 5)) old
        unfolding is_room
        read_short l = Reading.sizes v found.says (rw (good_shape_lem, lt-leb (product v.shape) (length old) (omega (arith, l, count-here))))

        lengths-here : o.shape.n ≡ lengths_of v.shape
        lengths-here = ap (λ (x : Header). x.lengths) (sym kept ∙ head-here)

        width-here : o.width ≡ bytes_of v.width
        width-here = found.width ∙ width-bytes v.width

        -- no more than the bytes of 4,096 values
        pub read-bytes : o.width * c ≤ 32768
        read-bytes =
            let a : o.width ≤ 8 = omega (arith, found.width, width-most v.width) in
            let b : c ≤ 4096 = omega (arith, count-here, good-most v.shape good_shape_lem) in
            mul-le-mul a b

        pub read-inside : o.start ≤ length t
        read-inside = found.inside

        module _ (l : c ≤ length old) where
          room : is_room v (length old) ≡ true
          unfolding is_room
          room = rw (good_shape_lem, le-leb (product v.shape) (length old) (omega (arith, l, count-here)))

          ends : data_start t + bytes_of v.width * product v.shape ≡ o.start + o.width * c
          ends = ends_same found.start width-here count-here

          pub read-unlike : (length t ≡ o.start + o.width * c → ⊥) → Reading t old (Err (refused_by 10)) old
          unfolding data_fits
          read-unlike n = Reading.unlike v found.says room (ne_eqb (length t) (data_start t + bytes_of v.width * product v.shape) (λ e. n (e ∙ ends)))

          module _ (e : length t ≡ o.start + o.width * c) where
            fits : data_fits t v ≡ true
            unfolding data_fits
            fits = eq-eqb (length t) (data_start t + bytes_of v.width * product v.shape) (e ∙ sym ends)

            width_is : width_of o.width ≡ v.width
            width_is = ap width_of found.width ∙ width_back v.width

            pub read_fits : {m : ℕ} → m ≡ c → ColumnsFit (width_of o.width) o.start (count o.shape.n) (length t) m
            read_fits k =
                let b : bytes_of (width_of o.width) * count o.shape.n ≡ o.width * c =
                ap₂ (λ (x y : ℕ). x * y) (ap bytes_of width_is ∙ sym width-here) (sym ec) in
                record { bytes = omega (arith, b, e); full = k ∙ ec }

            filled : table (count o.shape.n) (values_of (width_of o.width) (order_of o.order) t o.start o.shape.n)
                ≡ table (product v.shape) (file_value t v)
            filled =
                values_same t width_is (ap order_of found.order ∙ order-back v.order) found.start lengths-here (sym ec ∙ count-here)

            pub read_done : {w : ℕ} {new : List Float} → w ≡ word_of h
                → new ≡ table (count o.shape.n) (values_of (width_of o.width) (order_of o.order) t o.start o.shape.n) ++ drop c old
                → Reading t old (Ok w) new
            read_done {w} {new} ew en =
                let a : ◌≡◌ {A = Answer} (Ok w) (Ok (word_of (head_of v.shape))) = ap Ok (ew ∙ ap word_of head-here) in
                let b : new ≡ table (product v.shape) (file_value t v) ++ drop (product v.shape) old =
                en ∙ ap₂ (λ (x : List Float) (n : ℕ). x ++ drop n old) filled count-here in
                rw (a, b) (Reading.done v found.says room fits)
