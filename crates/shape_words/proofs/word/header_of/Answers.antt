use lib.Bits.{and_mask}
use Rattle.model.specs.Word.{header_of}
use Prim.Native.Nat.{◌-◌, ◌/◌, ◌^◌}
use Rattle.shape_words.proofs.word.header_of.Goals as goal

pub returns : goal.returns
unfolding header_of
returns c =
    simp (
      and_mask (c.args.word / 2 ^ 61) 3,
      c.cap_of.ensures,
      c.field-8.ensures,
      c.field-7.ensures,
      c.field-6.ensures,
      c.field-5.ensures,
      c.field-4.ensures,
      c.field-3.ensures,
      c.field-2.ensures,
      c.field.ensures,
    )
