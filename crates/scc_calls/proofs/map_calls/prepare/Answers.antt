use Rattle.scc_calls.proofs.map_calls.prepare.Goals as goal

pub returns-in-Insert : goal.returns-in-Insert
returns-in-Insert g c =
    record {
      made = (rw c.in-Insert.is c.prepare_key.ensures.made);
      known = (rw c.in-Insert.is c.prepare_key.ensures.known);
      stays = c.prepare_key.ensures.stays;
      settings = c.prepare_key.ensures.settings;
      grows = c.prepare_key.ensures.grows;
      adds = (rw c.in-Insert.is (λ more. tt));
      refused = (rw c.in-Insert.is c.prepare_key.ensures.refused);
      unmarked = c.prepare_key.ensures.unmarked;
      still = (rw c.in-Insert.is c.prepare_key.ensures.still);
    }

pub returns-in-Upsert : goal.returns-in-Upsert
returns-in-Upsert g c =
    record {
      made = (rw c.in-Upsert.is c.prepare_key-in-Upsert.ensures.made);
      known = (rw c.in-Upsert.is c.prepare_key-in-Upsert.ensures.known);
      stays = c.prepare_key-in-Upsert.ensures.stays;
      settings = c.prepare_key-in-Upsert.ensures.settings;
      grows = c.prepare_key-in-Upsert.ensures.grows;
      adds = (rw c.in-Upsert.is (λ more. tt));
      refused = (rw c.in-Upsert.is c.prepare_key-in-Upsert.ensures.refused);
      unmarked = c.prepare_key-in-Upsert.ensures.unmarked;
      still = (rw c.in-Upsert.is c.prepare_key-in-Upsert.ensures.still);
    }
