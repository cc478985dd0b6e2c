use Rattle.std.proofs.Common.{arith}
use Rattle.wz_words.proofs.RenamesLaws.{names_more, names_at, on_ok_then}
use Rattle.wz_words.proofs.renames.RenamesSoFar.add.Goals as goal

pub returns-clause-sound : goal.returns-clause-sound
returns-clause-sound c =
    let before = c.args.self.now in
    let renames = before.list.items in
    on_ok_then c.push.result
    (λ items. record {
      to = names_at c.add_name.new.names c.push.new.self.names_to (λ r. r.dst) _ c.push.new.self.list.items c.push.ensures.names_to items
          (names_more (λ r. r.dst) before.names_to c.add_name.new.names renames c.in-Some.dst _ c.requires.to c.in_ok-copied.ensures.ok c.in_ok-add_name.ensures.ok.1);
      from = names_at c.add_name-2.new.names c.push.new.self.names_from (λ r. r.src) _ c.push.new.self.list.items c.push.ensures.names_from items
          (names_more (λ r. r.src) before.names_from c.add_name-2.new.names renames c.in-Some.src _ c.requires.from c.in_ok-copied-2.ensures.ok c.in_ok-add_name-2.ensures.ok.1);
      within = let a = c.push.ensures.bytes in let b = c.if-self-value.false in let d = c.requires.within in omega (arith, a, b, d);
    })
    c.push.ensures.ok
