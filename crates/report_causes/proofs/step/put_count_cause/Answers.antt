use Rattle.lists.specs.Bytes.{bytes}
use Rattle.recipes_kinds.specs.Known.{step-regular}
use Rattle.model_faults.specs.StepCount.{count_cause}
use Rattle.report_causes.proofs.step.put_count_cause.Goals as goal

pub stored_of-count-requires : goal.stored_of-count-requires
stored_of-count-requires c = rw c.announce.ensures (step-regular _ _ c.requires).rules

pub returns : goal.returns
unfolding count_cause bytes
returns c =
    rw (
      ← c.announce.ensures,
      ← c.stored_of-count.ensures,
    ) c.say.ensures
