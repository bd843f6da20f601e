use Rattle.std.proofs.Common.{arith, subst}
use Rattle.seq_theory.specs.Graph.{IsReal}
use Rattle.seq_core.specs.Words.{classes_of}
use Rattle.seq_words.specs.declared.view.Told.{Told}
use Rattle.seq_words.specs.Knowledge.{problem_in}
use Rattle.seq_words.proofs.Looks.{looked, looked-seen, looked-real, looked-of, looked-covers}
use Rattle.seq_words.proofs.seeing.see.Goals as goal

pub returns-clause-looked : goal.returns-clause-looked
returns-clause-looked c =
    let size = c.requires.seat.sized in
    let room = c.requires.room in
    looked c.args.seat.now c.find.new.seat c.look_group.new.seat c.look_low-low.new.seat c.look_up-up.new.seat c.args.place c.look_group.result c.look_low-low.result c.look_up-up.result
    (omega arith) c.if-not-find.ensures.learns c.look_group.ensures.learns c.look_low-low.ensures.learns c.look_up-up.ensures.learns
    c.look_group.ensures.group.2 c.look_group.ensures.known c.look_low-low.ensures.kept c.look_low-low.ensures.right c.look_up-up.ensures.kept c.look_up-up.ensures.right

pub returns-clause-seen : goal.returns-clause-seen
returns-clause-seen c =
    let size = c.requires.seat.sized in
    let room = c.requires.room in
    looked-seen c.args.seat.now c.find.new.seat c.look_group.new.seat c.look_low-low.new.seat c.look_up-up.new.seat c.args.place c.look_group.result c.look_low-low.result c.look_up-up.result
    (omega arith) c.if-not-find.ensures.learns c.look_group.ensures.learns c.look_low-low.ensures.learns c.look_up-up.ensures.learns c.look_group.ensures.group.2

pub returns-clause-real : goal.returns-clause-real
returns-clause-real c =
    let size = c.requires.seat.sized in
    let room = c.requires.room in
    subst (λ (t : Told). IsReal (problem_in t) (classes_of c.look_group.result)) c.requires.seat.told
    (looked-real c.args.seat.now c.find.new.seat c.look_group.new.seat c.look_low-low.new.seat c.look_up-up.new.seat c.args.place c.look_group.result c.look_low-low.result c.look_up-up.result
    (omega arith) c.if-not-find.ensures.learns c.look_group.ensures.learns c.look_low-low.ensures.learns c.look_up-up.ensures.learns c.look_group.ensures.group.2 c.look_up-up.ensures.real)

pub returns-clause-of : goal.returns-clause-of
returns-clause-of c =
    let size = c.requires.seat.sized in
    let room = c.requires.room in
    looked-of c.args.seat.now c.find.new.seat c.look_group.new.seat c.look_low-low.new.seat c.look_up-up.new.seat c.args.place c.look_group.result c.look_low-low.result c.look_up-up.result
    (omega arith) c.if-not-find.ensures.learns c.look_group.ensures.learns c.look_low-low.ensures.learns c.look_up-up.ensures.learns c.args.words.now c.requires.seat

pub returns-clause-covers : goal.returns-clause-covers
returns-clause-covers c =
    let size = c.requires.seat.sized in
    let room = c.requires.room in
    looked-covers c.args.seat.now c.find.new.seat c.look_group.new.seat c.look_low-low.new.seat c.look_up-up.new.seat c.args.place c.look_group.result c.look_low-low.result c.look_up-up.result
    (omega arith) c.if-not-find.ensures.learns c.look_group.ensures.learns c.look_low-low.ensures.learns c.look_up-up.ensures.learns c.look_group.ensures.known c.look_low-low.ensures.kept c.look_up-up.ensures.kept
