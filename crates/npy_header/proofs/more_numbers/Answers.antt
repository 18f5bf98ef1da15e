use Rattle.npy_pieces.specs.Places.{passes}
use Rattle.npy_header.specs.Shapes.{listing_none, listing-over, listing-few, listing-bare, listing-comma, listing-more}
use Rattle.npy_header.proofs.more_numbers.Goals as goal

pub loop-init : goal.loop-init
loop-init c = listing_none _ _ _ c.requires

pub skip-q-requires : goal.skip-q-requires
skip-q-requires c = c.loop.invariant.inside

pub byte_at-requires : goal.byte_at-requires
byte_at-requires c = c.skip-q.ensures.most

pub returns-then-v-lt2 : goal.returns-then-v-lt2
unfolding passes
returns-then-v-lt2 c =
    listing-few c.args.text.now
    c.loop.invariant c.loop-test.true
    c.skip-q.ensures c.byte_at.ensures
    c.if-byte_at-ne44.true c.if-v-lt2.true

pub eat_byte-requires : goal.eat_byte-requires
eat_byte-requires c = c.skip-q.ensures.most

pub returns-then-byte_at-ne44 : goal.returns-then-byte_at-ne44
unfolding passes
returns-then-byte_at-ne44 c =
    listing-bare c.args.text.now c.loop.invariant
    c.loop-test.true c.skip-q.ensures
    c.byte_at.ensures c.if-byte_at-ne44.true
    c.if-v-lt2.false c.eat_byte.ensures

pub past_comma-b-requires : goal.past_comma-b-requires
past_comma-b-requires c = c.loop.invariant.inside

pub byte_at-requires-in-loop : goal.byte_at-requires-in-loop
byte_at-requires-in-loop c = c.past_comma-b.ensures.most

pub eat_byte-requires-then-byte_at-eq41 : goal.eat_byte-requires-then-byte_at-eq41
eat_byte-requires-then-byte_at-eq41 c = c.past_comma-b.ensures.most

pub returns-then-byte_at-eq41 : goal.returns-then-byte_at-eq41
unfolding passes
returns-then-byte_at-eq41 c =
    listing-comma c.args.text.now c.loop.invariant
    c.loop-test.true
    c.skip-q.ensures
    c.byte_at.ensures c.if-byte_at-ne44.false
    c.past_comma-b.ensures c.byte_at-in-loop.ensures
    c.if-byte_at-eq41.true c.eat_byte-then-byte_at-eq41.ensures

pub number_at-requires : goal.number_at-requires
number_at-requires c = c.past_comma-b.ensures.most

pub past_number-p-requires : goal.past_number-p-requires
past_number-p-requires c = c.past_comma-b.ensures.most

pub loop-preserved : goal.loop-preserved
unfolding passes
loop-preserved c =
    listing-more c.args.text.now c.loop.invariant c.loop-test.true c.skip-q.ensures
    c.byte_at.ensures
    c.if-byte_at-ne44.false
    c.past_comma-b.ensures
    c.byte_at-in-loop.ensures c.if-byte_at-eq41.false
    c.number_at.ensures c.push-held.ensures c.past_number-p.ensures

pub returns : goal.returns
returns c = listing-over c.args.text.now c.loop.invariant c.loop-test.false
