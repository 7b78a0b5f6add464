use Rattle.std.proofs.Common.{OnOk, OnErr, sym, subst}
use Rattle.fb_link.specs.Targets.{place_of}
use Rattle.wire_told.specs.Places.{ImageAt, IsBad}
use Rattle.wire_told.specs.Ports.{IsAimed, IsAstray, Turns}
use Rattle.pair_port.specs.Calls.{OpensEnd, MissesEnd}
use Rattle.pair_port.specs.Pairs.{disk_of, pair_told, stands_in}
use Rattle.pair_port.proofs.CallLemmas.{ok-map, err-map, either-way}
use Rattle.pair_port.proofs.PairAimLemmas.{aims, misses, opens-turns, misses-turns, bad-image}
use Rattle.pair_port.proofs.port.PairPortPort.aim.Goals as goal

pub returns-in-Image-clause-aimed : goal.returns-in-Image-clause-aimed
returns-in-Image-clause-aimed g c =
    let told = g.K.Disk.told in
    let p = c.args.self.now in
    let q = c.open.new.self in
    let path = c.in-Image.path.now in
    subst (λ t. OnOk c.open.result (IsAimed (pair_told told p) (pair_told told q) (place_of t))) (sym c.in-Image.is)
    (ok-map c.open.result (OpensEnd told p.end q.end path) (IsAimed (pair_told told p) (pair_told told q) (ImageAt path)) (aims told p q path) c.open.ensures.opens)

pub returns-in-Image-clause-astray : goal.returns-in-Image-clause-astray
returns-in-Image-clause-astray g c =
    let told = g.K.Disk.told in
    let p = c.args.self.now in
    let q = c.open.new.self in
    let path = c.in-Image.path.now in
    subst (λ t. OnErr c.open.result (IsAstray (pair_told told p) (pair_told told q) (place_of t))) (sym c.in-Image.is)
    (err-map c.open.result (MissesEnd told p.end q.end path) (IsAstray (pair_told told p) (pair_told told q) (ImageAt path)) (misses told p q path) c.open.ensures.misses)

pub returns-in-Image-clause-turns : goal.returns-in-Image-clause-turns
returns-in-Image-clause-turns g c =
    let told = g.K.Disk.told in
    let p = c.args.self.now in
    let q = c.open.new.self in
    let path = c.in-Image.path.now in
    either-way c.open.result (OpensEnd told p.end q.end path) (MissesEnd told p.end q.end path) (Turns (pair_told told p) (pair_told told q))
    (λ o. opens-turns told p q path o c.open.ensures.counters) (λ m. misses-turns told p q path m c.open.ensures.counters) c.open.ensures.opens c.open.ensures.misses

pub returns-in-Image-clause-bad : goal.returns-in-Image-clause-bad
returns-in-Image-clause-bad g c = λ bad e.
    let files = (g.K.Disk.told (disk_of c.args.self.now.end)).files in
    subst (λ t. IsBad (stands_in files) (place_of t) bad) (sym c.in-Image.is) (bad-image files c.in-Image.path.now bad (c.open.ensures.bad bad e))
