use Rattle.std.proofs.Common.{◌≡◌, false, take, arith, sym, ap, subst, ◌∙◌}
use Rattle.device_session.specs.Living.{Live, live_of, wire_of, is_over, is_full, Feeds, IsAlive, SessionKept}
use Rattle.device_session.proofs.TurnLemmas.{open-for, turn-of, feeds-by, kept, stops}
use Rattle.device_session.proofs.session.Session.feed.Goals as goal

pub invariant_of-self : goal.invariant_of-self
invariant_of-self g c =
    let told = g.K.Disk.told in
    let r = c.self.inside.responder in
    let i = c.self.inside.inlet in
    let k = c.take-n.new.self in
    let s = c.hear-closes.new.self in
    let j = c.hear-closes.new.inlet in
    let piece = c.args.piece.now in
    let n = c.take-n.result.0 in
    let came = c.take-n.result.1 in
    let closes = c.hear-closes.result in
    let full : is_full (wire_of (live_of r i c.self.inside.closed)) piece ≡ false =
    ap (λ l. is_full (wire_of l) piece) c.self.view_is ∙ (sym c.is_full.ensures.full ∙ c.if-is_full.false) in
    let opened = open-for r i c.self.inside.closed piece full in
    let turn = turn-of told r s i k j c.self.inside.closed piece n came closes opened c.self.invariant.1 c.take-n.ensures.within c.take-n.ensures.some
    c.take-n.ensures.limit c.take-n.ensures.comes c.hear-closes.ensures.hears in
    let before : live_of r i false ≡ c.args.self.now = ap (λ b. live_of r i b) (sym opened.running) ∙ c.self.view_is in
    let after : live_of s j (is_over closes j.taken) ≡ live_of s j c.is_over-self-inside.result =
    ap (λ b. live_of s j b) (sym (c.is_over-self-inside.ensures.over ∙ ap (λ t. is_over closes t) c.taken.ensures.taken)) in
    let all = kept told g.K.Disk.lent r s i k j _ came closes turn (c.self.invariant.1.fits opened.running) c.hear-closes.ensures.follows in
    (c.hear-closes.ensures.follows.typed, subst (IsAlive told) after all.alive)

pub returns-clause-full : goal.returns-clause-full
returns-clause-full g c =
    let told = g.K.Disk.told in
    let r = c.self.inside.responder in
    let i = c.self.inside.inlet in
    let k = c.take-n.new.self in
    let s = c.hear-closes.new.self in
    let j = c.hear-closes.new.inlet in
    let piece = c.args.piece.now in
    let n = c.take-n.result.0 in
    let came = c.take-n.result.1 in
    let closes = c.hear-closes.result in
    let full : is_full (wire_of (live_of r i c.self.inside.closed)) piece ≡ false =
    ap (λ l. is_full (wire_of l) piece) c.self.view_is ∙ (sym c.is_full.ensures.full ∙ c.if-is_full.false) in
    let opened = open-for r i c.self.inside.closed piece full in
    let turn = turn-of told r s i k j c.self.inside.closed piece n came closes opened c.self.invariant.1 c.take-n.ensures.within c.take-n.ensures.some
    c.take-n.ensures.limit c.take-n.ensures.comes c.hear-closes.ensures.hears in
    let before : live_of r i false ≡ c.args.self.now = ap (λ b. live_of r i b) (sym opened.running) ∙ c.self.view_is in
    let after : live_of s j (is_over closes j.taken) ≡ live_of s j c.is_over-self-inside.result =
    ap (λ b. live_of s j b) (sym (c.is_over-self-inside.ensures.over ∙ ap (λ t. is_over closes t) c.taken.ensures.taken)) in
    (λ e. absurd (omega (arith, e, c.take-n.ensures.some opened.some)), λ e. let no = sym c.is_full.ensures.full ∙ c.if-is_full.false in absurd cc)

pub returns-clause-still : goal.returns-clause-still
returns-clause-still g c e =
    let told = g.K.Disk.told in
    let r = c.self.inside.responder in
    let i = c.self.inside.inlet in
    let k = c.take-n.new.self in
    let s = c.hear-closes.new.self in
    let j = c.hear-closes.new.inlet in
    let piece = c.args.piece.now in
    let n = c.take-n.result.0 in
    let came = c.take-n.result.1 in
    let closes = c.hear-closes.result in
    let full : is_full (wire_of (live_of r i c.self.inside.closed)) piece ≡ false =
    ap (λ l. is_full (wire_of l) piece) c.self.view_is ∙ (sym c.is_full.ensures.full ∙ c.if-is_full.false) in
    let opened = open-for r i c.self.inside.closed piece full in
    let turn = turn-of told r s i k j c.self.inside.closed piece n came closes opened c.self.invariant.1 c.take-n.ensures.within c.take-n.ensures.some
    c.take-n.ensures.limit c.take-n.ensures.comes c.hear-closes.ensures.hears in
    let before : live_of r i false ≡ c.args.self.now = ap (λ b. live_of r i b) (sym opened.running) ∙ c.self.view_is in
    let after : live_of s j (is_over closes j.taken) ≡ live_of s j c.is_over-self-inside.result =
    ap (λ b. live_of s j b) (sym (c.is_over-self-inside.ensures.over ∙ ap (λ t. is_over closes t) c.taken.ensures.taken)) in
    absurd (omega (arith, e, c.take-n.ensures.some opened.some))

pub returns-clause-stops : goal.returns-clause-stops
returns-clause-stops g c =
    let told = g.K.Disk.told in
    let r = c.self.inside.responder in
    let i = c.self.inside.inlet in
    let k = c.take-n.new.self in
    let s = c.hear-closes.new.self in
    let j = c.hear-closes.new.inlet in
    let piece = c.args.piece.now in
    let n = c.take-n.result.0 in
    let came = c.take-n.result.1 in
    let closes = c.hear-closes.result in
    let full : is_full (wire_of (live_of r i c.self.inside.closed)) piece ≡ false =
    ap (λ l. is_full (wire_of l) piece) c.self.view_is ∙ (sym c.is_full.ensures.full ∙ c.if-is_full.false) in
    let opened = open-for r i c.self.inside.closed piece full in
    let turn = turn-of told r s i k j c.self.inside.closed piece n came closes opened c.self.invariant.1 c.take-n.ensures.within c.take-n.ensures.some
    c.take-n.ensures.limit c.take-n.ensures.comes c.hear-closes.ensures.hears in
    let before : live_of r i false ≡ c.args.self.now = ap (λ b. live_of r i b) (sym opened.running) ∙ c.self.view_is in
    let after : live_of s j (is_over closes j.taken) ≡ live_of s j c.is_over-self-inside.result =
    ap (λ b. live_of s j b) (sym (c.is_over-self-inside.ensures.over ∙ ap (λ t. is_over closes t) c.taken.ensures.taken)) in
    stops (wire_of c.args.self.now) i k _ came (ap (λ (l : Live _). l.phase) (sym before)) (ap (λ (l : Live _). l.rest) (sym before)) c.take-n.ensures.comes

pub returns-clause-feeds : goal.returns-clause-feeds
returns-clause-feeds g c some =
    let told = g.K.Disk.told in
    let r = c.self.inside.responder in
    let i = c.self.inside.inlet in
    let k = c.take-n.new.self in
    let s = c.hear-closes.new.self in
    let j = c.hear-closes.new.inlet in
    let piece = c.args.piece.now in
    let n = c.take-n.result.0 in
    let came = c.take-n.result.1 in
    let closes = c.hear-closes.result in
    let full : is_full (wire_of (live_of r i c.self.inside.closed)) piece ≡ false =
    ap (λ l. is_full (wire_of l) piece) c.self.view_is ∙ (sym c.is_full.ensures.full ∙ c.if-is_full.false) in
    let opened = open-for r i c.self.inside.closed piece full in
    let turn = turn-of told r s i k j c.self.inside.closed piece n came closes opened c.self.invariant.1 c.take-n.ensures.within c.take-n.ensures.some
    c.take-n.ensures.limit c.take-n.ensures.comes c.hear-closes.ensures.hears in
    let before : live_of r i false ≡ c.args.self.now = ap (λ b. live_of r i b) (sym opened.running) ∙ c.self.view_is in
    let after : live_of s j (is_over closes j.taken) ≡ live_of s j c.is_over-self-inside.result =
    ap (λ b. live_of s j b) (sym (c.is_over-self-inside.ensures.over ∙ ap (λ t. is_over closes t) c.taken.ensures.taken)) in
    let bytes = take n piece in
    subst (λ (l : Live _). Feeds told l (live_of s j c.is_over-self-inside.result) bytes) before
    (subst (λ (l : Live _). Feeds told (live_of r i false) l bytes) after (feeds-by told r s i k j bytes came closes turn))

pub returns-clause-kept : goal.returns-clause-kept
returns-clause-kept g c =
    let told = g.K.Disk.told in
    let r = c.self.inside.responder in
    let i = c.self.inside.inlet in
    let k = c.take-n.new.self in
    let s = c.hear-closes.new.self in
    let j = c.hear-closes.new.inlet in
    let piece = c.args.piece.now in
    let n = c.take-n.result.0 in
    let came = c.take-n.result.1 in
    let closes = c.hear-closes.result in
    let full : is_full (wire_of (live_of r i c.self.inside.closed)) piece ≡ false =
    ap (λ l. is_full (wire_of l) piece) c.self.view_is ∙ (sym c.is_full.ensures.full ∙ c.if-is_full.false) in
    let opened = open-for r i c.self.inside.closed piece full in
    let turn = turn-of told r s i k j c.self.inside.closed piece n came closes opened c.self.invariant.1 c.take-n.ensures.within c.take-n.ensures.some
    c.take-n.ensures.limit c.take-n.ensures.comes c.hear-closes.ensures.hears in
    let before : live_of r i false ≡ c.args.self.now = ap (λ b. live_of r i b) (sym opened.running) ∙ c.self.view_is in
    let after : live_of s j (is_over closes j.taken) ≡ live_of s j c.is_over-self-inside.result =
    ap (λ b. live_of s j b) (sym (c.is_over-self-inside.ensures.over ∙ ap (λ t. is_over closes t) c.taken.ensures.taken)) in
    let all = kept told g.K.Disk.lent r s i k j _ came closes turn (c.self.invariant.1.fits opened.running) c.hear-closes.ensures.follows in
    subst (λ (l : Live _). SessionKept told g.K.Disk.lent l (live_of s j c.is_over-self-inside.result)) before
    (subst (λ (l : Live _). SessionKept told g.K.Disk.lent (live_of r i false) l) after all)
