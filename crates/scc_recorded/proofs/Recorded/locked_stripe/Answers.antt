use Rattle.std.proofs.Common.{◌<◌, length, arith}
use Rattle.scc_recorded.proofs.Handing.{numbered}
use Rattle.scc_recorded.proofs.Recorded.locked_stripe.Goals as goal

pub returns : goal.returns
returns g c =
    let self = c.args.self.now in
    let within : c.args.i < length self.locks.items = omega (arith, c.requires, self.number, self.locks.ok.0) in
    numbered (λ l. l.number) self.locks.items self.stripes c.args.i c.index.result.now self.numbers within c.index.ensures
