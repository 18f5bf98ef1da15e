use Rattle.lists.specs.Bytes.{bytes}
use Rattle.report_lines.specs.Puts.{puts_then}
use Rattle.decimals.specs.Word.{nan-text, inf-text, bits_text_lem, value_text_lem}
use Rattle.decimals.proofs.put_float_of.Goals as goal

pub returns-then-low-eq0 : goal.returns-then-low-eq0
unfolding bytes
returns-then-low-eq0 c =
    rw (inf-text c.args.word c.if-exponent-eq2047.true c.if-low-eq0.true) (puts_then c.put_if-next.ensures c.put.ensures)

pub returns-then-exponent-eq2047 : goal.returns-then-exponent-eq2047
unfolding bytes
returns-then-exponent-eq2047 c =
    rw (nan-text c.args.word c.if-exponent-eq2047.true c.if-low-eq0.false) c.put-then-exponent-eq2047.ensures

pub returns-then-exponent-gt1085 : goal.returns-then-exponent-gt1085
returns-then-exponent-gt1085 c =
    rw (bits_text_lem c.args.word c.if-exponent-eq2047.false c.if-exponent-gt1085.true) c.put_bits.ensures

pub put_billionths-requires : goal.put_billionths-requires
put_billionths-requires c = c.number_of.ensures.small

pub returns : goal.returns
returns c =
    rw (value_text_lem c.args.word c.if-exponent-eq2047.false c.if-exponent-gt1085.false c.number_of.ensures) c.put_billionths.ensures
