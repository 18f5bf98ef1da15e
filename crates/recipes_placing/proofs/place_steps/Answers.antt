use Rattle.recipes_placing.specs.Going.{readers-front, by_readers}
use Rattle.recipes_placing.proofs.place_steps.Goals as goal

pub returns : goal.returns
returns c =
    let whole = by_readers c.args.counts.now c.args.starts.now (readers-front _ c.args.steps.now _
    c.note_readers.ensures) (c.place.ensures.offsets, c.place.ensures.length) in record { offsets = whole.0; length = whole.1 }
