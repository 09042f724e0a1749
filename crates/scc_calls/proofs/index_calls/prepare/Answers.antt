use Rattle.scc_calls.proofs.index_calls.prepare.Goals as goal

pub returns-in-Insert : goal.returns-in-Insert
returns-in-Insert g c =
    record {
      made = (rw c.in-Insert.is c.prepare_key.ensures.made);
      known = (rw c.in-Insert.is c.prepare_key.ensures.known);
      stays = c.prepare_key.ensures.stays;
      settings = c.prepare_key.ensures.settings;
      grows = c.prepare_key.ensures.grows;
      adds = (rw c.in-Insert.is (λ more. tt));
      refused = (rw c.in-Insert.is c.prepare_key.ensures.refused);
      unmarked = c.prepare_key.ensures.unmarked;
      still = (rw c.in-Insert.is c.prepare_key.ensures.still);
    }
