use Rattle.npy_grammar.specs.Reading.{strip}
use mathlib.Core.List.{[]}
use Rattle.npy_grammar.specs.Text.{is_blank}
use Rattle.npy_pieces.specs.Places.{passes, then}
use Rattle.npy_header.specs.Shapes.{tuple-none, tuple-some}
use Rattle.npy_header.proofs.tuple.Goals as goal

pub returns-then-byte_at-eq41 : goal.returns-then-byte_at-eq41
unfolding passes
returns-then-byte_at-eq41 c =
    tuple-none c.args.text.now c.args.at
    (then (strip is_blank) c.eat_byte.ensures
    c.skip-b.ensures) c.byte_at.ensures
    c.if-byte_at-eq41.true c.eat_byte-then-byte_at-eq41.ensures c.no_shape.ensures

pub returns : goal.returns
unfolding passes
returns c =
    tuple-some c.args.text.now c.args.at
    (then (strip is_blank) c.eat_byte.ensures
    c.skip-b.ensures)
    c.byte_at.ensures
    c.if-byte_at-eq41.false c.number_at.ensures
    (c.push-s.ensures [] c.no_shape-2.ensures)
    c.past_number.ensures c.more_numbers.ensures
