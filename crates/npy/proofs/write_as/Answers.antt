use Rattle.std.specs.Prelude.{Err}
use native.Mathlib.Omega.{arith}
use mathlib.Core.Path.{sym, ap, ◌∙◌}
use lib.Seq.{length-take-le}
use Rattle.model.specs.declared.Header.{Header}
use Rattle.model.specs.Header.{count}
use Rattle.shape_words.specs.Lengths.{Lengths, lengths_of_lem}
use Rattle.shape_words.specs.Words.{good_word_lem}
use Rattle.npy_writing.specs.Front.{Shaped}
use Rattle.sheet_text.specs.Put.{put-len}
use Rattle.npy.specs.Writing.{write_bad, write-shaped, write-few, write_short_lem, write_done}
use mathlib.Core.Path.{subst}
use Rattle.npy.proofs.write_as.Goals as goal

pub returns-then-not-is_good : goal.returns-then-not-is_good
returns-then-not-is_good c =
    write_bad c.args.newer c.args.head c.args.a.now c.args.file.now c.is_good.ensures
    c.if-not-is_good.true c.bad_word.ensures

pub count_of-count-requires : goal.count_of-count-requires
count_of-count-requires c =
    subst (λ (x : Header). Lengths x.lengths) (sym c.header_of-h.ensures)
    (lengths_of_lem (good_word_lem c.args.head
    (sym c.is_good.ensures ∙ c.if-not-is_good.false)).regular.rules)

pub returns-then-a-count : goal.returns-then-a-count
returns-then-a-count c =
    write-few c.args.newer c.args.head c.args.a.now c.args.file.now
    c.is_good.ensures
    c.if-not-is_good.false
    (c.count_of-count.ensures ∙ ap (λ (x : Header). count x.lengths)
    c.header_of-h.ensures) c.if-a-count.true (ap Err c.by.ensures)

pub returns-then-file-count : goal.returns-then-file-count
returns-then-file-count c =
    write_short_lem c.args.newer c.args.head c.args.a.now c.args.file.now
    c.is_good.ensures
    c.if-not-is_good.false
    (c.count_of-count.ensures
    ∙ ap (λ (x : Header). count x.lengths) c.header_of-h.ensures)
    c.if-a-count.false c.if-file-count.true (ap Err c.by-then-file-count.ensures)

pub put_front-start-requires : goal.put_front-start-requires
put_front-start-requires c =
    record {
      fact_1 = subst (λ (x : Header). Shaped x.vars x.lengths)
          (sym c.header_of-h.ensures)
          (write-shaped c.args.newer c.args.head c.args.a.now c.args.file.now
          c.is_good.ensures
          c.if-not-is_good.false);
      fact_2 = omega (arith, c.if-file-count.false);
    }

pub slice_bounds-put_data-end : goal.slice_bounds-put_data-end
slice_bounds-put_data-end c =
    sym (length-take-le c.count_of-count.result
    c.args.a.now c.if-a-count.false)

pub put_data-end-requires : goal.put_data-end-requires
put_data-end-requires c =
    omega (
      arith,
      length-take-le c.count_of-count.result c.args.a.now c.if-a-count.false,
      put-len c.put_front-start.ensures.put,
      c.put_front-start.ensures.is,
      c.if-file-count.false,
    )

pub returns : goal.returns
returns c =
    write_done c.args.newer c.args.head c.args.a.now c.args.file.now c.is_good.ensures
    c.if-not-is_good.false (c.count_of-count.ensures
    ∙ ap (λ (x : Header). count x.lengths) c.header_of-h.ensures) c.if-a-count.false c.if-file-count.false
    c.header_of-h.ensures c.put_front-start.ensures
    c.put_data-end.ensures
