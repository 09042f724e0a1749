use Rattle.std.proofs.Common.{rules, ℕ, nat_eq, true, false, BuildHasherDefault, FoldHasher}
use Rattle.scc_common.specs.Contents.{Contents}
use Rattle.scc_owned.specs.MapEntries.{RestsRefused}
use Rattle.scc_uses.specs.declared.routing.Route.{Route}
use Rattle.scc_uses.specs.Routing.{route_to, Offers, IsAsBefore}
use Rattle.scc_uses.proofs.RouteLemmas.{no_route, offer_better, offer_worse, offer_first, offer_refused}
use Rattle.scc_uses.proofs.routing.Routes.offer.Goals as goal
use Rattle.scc_uses.proofs.routing.Routes.offer.Goals.{in-Occupied+then-route-get, in-Occupied+else-route-get, in-Vacant+in_ok-_entry-in-Vacant}

pub returns-in_err-_entry-in-Vacant-clause-vacant : goal.returns-in_err-_entry-in-Vacant-clause-vacant
returns-in_err-_entry-in-Vacant-clause-vacant c =
    let at = rw c.self.view_is at c.in-Vacant.ensures.entry in
    let h = no_route c.args.self.now c.args.destination at.found in
    search rules

pub returns-in_err-_entry-in-Vacant-clause-refused : goal.returns-in_err-_entry-in-Vacant-clause-refused
returns-in_err-_entry-in-Vacant-clause-refused c =
    let at = rw c.self.view_is at c.in-Vacant.ensures.entry in
    let f : (hash : ℕ → ℕ) (d : Contents (ℕ × Route) (BuildHasherDefault FoldHasher)) → RestsRefused nat_eq hash c.in-Vacant.free.guard.now c.in-Vacant.free.key d → IsAsBefore c.args.self.now d = rw at.key (offer_refused c.args.self.now c.args.destination c.args.route c.in-Vacant.free at) in
    search (rules, f)

pub returns-clause-offered : goal.returns-clause-offered
returns-clause-offered c =
    elim c.match-entry_sync.branch [
      | in-Occupied+then-route-get w ↦
          let at = rw c.self.view_is at w.in-Occupied.ensures.entry in
          let h : Offers (route_to c.args.self.now c.args.destination) c.args.self.now c.args.destination c.args.route w.insert.new.self.guard.now true = offer_better c.args.self.now c.args.destination c.args.route w.in-Occupied.there w.insert.new.self at w.insert.ensures.written (search rules) in
          search rules
      | in-Occupied+else-route-get w ↦
          let at = rw c.self.view_is at w.in-Occupied.ensures.entry in
          let h : Offers (route_to c.args.self.now c.args.destination) c.args.self.now c.args.destination c.args.route w.in-Occupied.there.guard.now false = offer_worse c.args.self.now c.args.destination c.args.route w.in-Occupied.there at (search rules) in
          search rules
      | in-Vacant+in_ok-_entry-in-Vacant w ↦
          let at = rw c.self.view_is at w.in-Vacant.ensures.entry in
          let e = w.in_ok-_entry-in-Vacant in
          let h : Offers (route_to c.args.self.now c.args.destination) c.args.self.now c.args.destination c.args.route e._entry.guard.now true = offer_first c.args.self.now c.args.destination c.args.route w.in-Vacant.free e._entry at e.ensures.inserts.inserted e.ensures.inserts.unique in
          search rules
    ]
