use Rattle.std.proofs.Common.{ℕ, ◌≤◌, List, length, subst, sym}
use Rattle.wz_io.specs.Reading.{input_limit}
use Rattle.wz_words.specs.Settings.{settings_of}
use Rattle.wz_top.specs.Devices.{IsInputFrom}
use Rattle.wz_top.proofs.RunLemmas.{ran_refused, ran_made}
use Rattle.wz_top.proofs.top.carry_out.Goals as goal

pub returns-in-Err-clause-ran : goal.returns-in-Err-clause-ran
returns-in-Err-clause-ran g c =
    let s = settings_of c.args.settings.now in
    let before = g.F.Files.world c.args.files.now in
    let now = g.F.Files.world c.obtain.new.files in
    let value = sym c.deref.ensures.value in
    ran_refused c.bytes_ask_once.ensures s before now c.deref.result.now c.in-Err.refusal
    (subst (λ (b : List ℕ). IsInputFrom before.told s.input b) value c.in-Ok.ensures.bytes)
    (subst (λ (b : List ℕ). length b ≤ input_limit) value c.in-Ok.ensures.within)
    (c.in-Err.ensures.refused s) c.in-Ok.ensures.only_read c.in-Ok.ensures.current

pub returns-clause-ran : goal.returns-clause-ran
returns-clause-ran g c =
    let s = settings_of c.args.settings.now in
    let before = g.F.Files.world c.args.files.now in
    let mid = g.F.Files.world c.obtain.new.files in
    let value = sym c.deref.ensures.value in
    ran_made c.bytes_ask_once.ensures s before mid c.deref.result.now
    (subst (λ (b : List ℕ). IsInputFrom before.told s.input b) value c.in-Ok.ensures.bytes)
    (subst (λ (b : List ℕ). length b ≤ input_limit) value c.in-Ok.ensures.within)
    c.in-Ok.ensures.only_read c.in-Ok.ensures.current (g.F.Files.world c.make.new.files) c.make.result
    (c.make.ensures.made c.deref.result.now c.in-Ok-accept.ensures.accepted)
