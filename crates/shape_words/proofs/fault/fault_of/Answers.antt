use lib.Bits.{and_mask}
use Rattle.model.specs.Faults.{sound_var, header_fault}
use Rattle.model.specs.Word.{fault_of}
use Rattle.shape_words.specs.Faults.{word-lengths}
use Rattle.shape_words.proofs.fault.fault_of.Goals as goal

pub count_of-requires : goal.count_of-requires
count_of-requires c = rw c.header_of-h.ensures (word-lengths _)

pub returns : goal.returns
unfolding fault_of header_fault sound_var
returns c =
    simp (
      c.unless.ensures,
      c.of-3.ensures,
      c.after_var-v0.ensures,
      c.after_var-v1.ensures,
      c.after_var-v2.ensures,
      c.after_var-v3.ensures,
      c.unless-spare.ensures,
      c.of-2.ensures,
      c.unless-count.ensures,
      c.none.ensures,
      c.of.ensures,
      c.count_of.ensures,
      c.header_of-h.ensures,
      and_mask c.args.word 5,
    )
