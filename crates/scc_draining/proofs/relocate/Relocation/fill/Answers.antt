use Rattle.std.proofs.Common.{◌∙◌, set, ap, rules}
use Rattle.std.proofs.lemmas.List.{set-set}
use Rattle.scc_array.specs.Shelves.{shelf_of}
use Rattle.scc_draining.proofs.relocate.Relocation.fill.Goals as goal

pub returns : goal.returns
returns g c =
    let i = c.args.self.now.target in
    record {
      ok = (search rules);
      few = (search rules);
      others = (c.drain.ensures.others ∙ ap (λ v. set v i (shelf_of c.drain.new.into i)) c.make_room_for.ensures.value ∙ set-set c.args.into.now i _ (shelf_of c.drain.new.into i));
      stays = (search rules);
      err = (search rules);
      refused = (search rules);
    }
