use native.Mathlib.Omega.{arith}
use mathlib.Core.List.{◌++◌, append_assoc}
use Rattle.model_texts.specs.Hex.{hex_line}
use Rattle.model_texts.specs.Printed.{done_word, newline, decimal, done_text}
use Rattle.sheet_text.specs.Put.{Put, put-len, put_then}
use Rattle.sheet_text.specs.Texts.{length-line}
use Rattle.sheet_text.specs.Decimal.{decimal-most}
use Rattle.sheet.proofs.print.put_done.Goals as goal

pub put_decimal-b-requires : goal.put_decimal-b-requires
put_decimal-b-requires c =
    omega (
      arith,
      put-len c.put_bytes-a.ensures,
      c.put_bytes-a.ensures.behind,
      decimal-most 3 c.args.steps (omega arith) (omega arith) (omega arith),
    )

pub put_byte-c-requires : goal.put_byte-c-requires
put_byte-c-requires c =
    let second : Put 0 (done_word ++ decimal c.args.steps) c.args.to.now c.put_decimal-b.new.to c.put_decimal-b.result =
    put_then c.put_bytes-a.ensures c.put_decimal-b.ensures in
    omega (
      arith,
      put-len (second),
      c.put_bytes-a.ensures.behind,
      c.put_decimal-b.ensures.behind,
      decimal-most 3 c.args.steps (omega arith) (omega arith) (omega arith),
    )

pub put_line-d-requires : goal.put_line-d-requires
put_line-d-requires c =
    let second : Put 0 (done_word ++ decimal c.args.steps) c.args.to.now c.put_decimal-b.new.to c.put_decimal-b.result =
    put_then c.put_bytes-a.ensures c.put_decimal-b.ensures in
    let third : Put 0 ((done_word ++ decimal c.args.steps) ++ newline) c.args.to.now c.put_byte-c.new.to c.put_byte-c.result =
    put_then (second) c.put_byte-c.ensures in
    omega (
      arith,
      put-len (third),
      c.put_bytes-a.ensures.behind,
      c.put_decimal-b.ensures.behind,
      c.put_byte-c.ensures.behind,
      decimal-most 3 c.args.steps (omega arith) (omega arith) (omega arith),
    )

pub put_floats-requires : goal.put_floats-requires
put_floats-requires c =
    let second : Put 0 (done_word ++ decimal c.args.steps) c.args.to.now c.put_decimal-b.new.to c.put_decimal-b.result =
    put_then c.put_bytes-a.ensures c.put_decimal-b.ensures in
    let third : Put 0 ((done_word ++ decimal c.args.steps) ++ newline) c.args.to.now c.put_byte-c.new.to c.put_byte-c.result =
    put_then (second) c.put_byte-c.ensures in
    let fourth : Put 0 (((done_word ++ decimal c.args.steps) ++ newline) ++ hex_line c.args.header)
    c.args.to.now c.put_line-d.new.to c.put_line-d.result =
    put_then (third) c.put_line-d.ensures in
    omega (
      arith,
      put-len (fourth),
      c.put_bytes-a.ensures.behind,
      c.put_decimal-b.ensures.behind,
      c.put_byte-c.ensures.behind,
      c.put_line-d.ensures.behind,
      length-line c.args.header,
      decimal-most 3 c.args.steps (omega arith) (omega arith) (omega arith),
    )

pub returns : goal.returns
unfolding done_text
returns c =
    let second : Put 0 (done_word ++ decimal c.args.steps) c.args.to.now c.put_decimal-b.new.to c.put_decimal-b.result =
    put_then c.put_bytes-a.ensures c.put_decimal-b.ensures in
    let third : Put 0 ((done_word ++ decimal c.args.steps) ++ newline) c.args.to.now c.put_byte-c.new.to c.put_byte-c.result =
    put_then (second) c.put_byte-c.ensures in
    let fourth : Put 0 (((done_word ++ decimal c.args.steps) ++ newline) ++ hex_line c.args.header)
    c.args.to.now c.put_line-d.new.to c.put_line-d.result =
    put_then (third) c.put_line-d.ensures in
    simp append_assoc at (put_then (fourth) c.put_floats.ensures)
