use Rattle.std.proofs.Common.{refl}
use Rattle.wz_code.proofs.LawLemmas.{short_by_count}
use Rattle.wz_decode_code.proofs.StepLemmas.{here_within, end_within, plain_follows, begin_follows, second_follows, end_follows, room_instr, room_block}
use Rattle.wz_decode_code.proofs.blocks.step.Goals as goal

pub add_instr-requires-clause-there : goal.add_instr-requires-clause-there
add_instr-requires-clause-there c = here_within _ _ _ c.requires.reading

pub add_instr-requires-clause-room : goal.add_instr-requires-clause-room
add_instr-requires-clause-room c = (short_by_count c.args.builder.now c.requires.room).each c.args.here

pub add_instr-requires-in-End-clause-there : goal.add_instr-requires-in-End-clause-there
add_instr-requires-in-End-clause-there c = end_within _ _ _ _ _ c.requires.reading c.in-Some-pop.ensures.items

pub add_instr-requires-in-End-clause-room : goal.add_instr-requires-in-End-clause-room
add_instr-requires-in-End-clause-room c = (short_by_count c.args.builder.now c.requires.room).each c.in-Some-pop.opened.parent

pub returns-in_ok-add_instr-in-Plain-clause-ok : goal.returns-in_ok-add_instr-in-Plain-clause-ok
returns-in_ok-add_instr-in-Plain-clause-ok c = plain_follows _ _ _ _ _ _ c.requires.reading c.requires.fits c.in-Plain.is c.in_ok-add_instr-in-Plain.ensures.added

pub returns-in_ok-add_instr-in-Plain-clause-room : goal.returns-in_ok-add_instr-in-Plain-clause-room
returns-in_ok-add_instr-in-Plain-clause-room c = room_instr _ _ _ _ (here_within _ _ _ c.requires.reading) c.in_ok-add_instr-in-Plain.ensures.added

pub returns-in_ok-inner-in-Block-clause-ok : goal.returns-in_ok-inner-in-Block-clause-ok
returns-in_ok-inner-in-Block-clause-ok c =
    let e = c.in_ok-inner-in-Block.ensures in
    begin_follows _ _ _ _ _ _ _ _ c.requires.reading refl refl e.number e.added e.opens (rw c.in-Block.is refl)

pub returns-in_ok-inner-in-Block-clause-room : goal.returns-in_ok-inner-in-Block-clause-room
returns-in_ok-inner-in-Block-clause-room c = room_block _ _ c.in_ok-inner-in-Block.ensures.added

pub returns-in_ok-inner-in-Loop-clause-ok : goal.returns-in_ok-inner-in-Loop-clause-ok
returns-in_ok-inner-in-Loop-clause-ok c =
    let e = c.in_ok-inner-in-Loop.ensures in
    begin_follows _ _ _ _ _ _ _ _ c.requires.reading refl refl e.number e.added e.opens (rw c.in-Loop.is refl)

pub returns-in_ok-inner-in-Loop-clause-room : goal.returns-in_ok-inner-in-Loop-clause-room
returns-in_ok-inner-in-Loop-clause-room c = room_block _ _ c.in_ok-inner-in-Loop.ensures.added

pub returns-in_ok-inner-in-If-clause-ok : goal.returns-in_ok-inner-in-If-clause-ok
returns-in_ok-inner-in-If-clause-ok c =
    let e = c.in_ok-inner-in-If.ensures in
    begin_follows _ _ _ _ _ _ _ _ c.requires.reading refl refl e.number e.added e.opens (rw c.in-If.is refl)

pub returns-in_ok-inner-in-If-clause-room : goal.returns-in_ok-inner-in-If-clause-room
returns-in_ok-inner-in-If-clause-room c = room_block _ _ c.in_ok-inner-in-If.ensures.added

pub returns-in_ok-inner-in-Else-clause-ok : goal.returns-in_ok-inner-in-Else-clause-ok
returns-in_ok-inner-in-Else-clause-ok c =
    let e = c.in_ok-inner-in-Else.ensures in
    second_follows _ _ _ _ _ _ _ _ _ _ c.requires.reading c.in-Some.ensures.items c.in-First.is refl refl refl c.in-Else.is e.number e.added e.opens

pub returns-in_ok-inner-in-Else-clause-room : goal.returns-in_ok-inner-in-Else-clause-room
returns-in_ok-inner-in-Else-clause-room c = room_block _ _ c.in_ok-inner-in-Else.ensures.added

pub returns-in_ok-add_instr-in-End-clause-ok : goal.returns-in_ok-add_instr-in-End-clause-ok
returns-in_ok-add_instr-in-End-clause-ok c =
    end_follows _ _ _ _ _ _ _ c.requires.reading c.in-Some-pop.ensures.items c.in-End.is (rw c.node.ensures at c.in_ok-add_instr-in-End.ensures.added)

pub returns-in_ok-add_instr-in-End-clause-room : goal.returns-in_ok-add_instr-in-End-clause-room
returns-in_ok-add_instr-in-End-clause-room c =
    room_instr _ _ _ _ (end_within _ _ _ _ _ c.requires.reading c.in-Some-pop.ensures.items) c.in_ok-add_instr-in-End.ensures.added
