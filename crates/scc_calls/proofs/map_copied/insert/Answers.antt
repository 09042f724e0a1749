use Rattle.std.proofs.Common.{ℕ, Err, ap, refl, subst, inl, inr, rules}
use Rattle.scc_common.specs.Contents.{key_hash}
use Rattle.scc_common.specs.declared.errors.InsertError.{InsertError}
use Rattle.scc_owned.specs.MapSteps.{Inserts}
use Rattle.scc_calls.proofs.MapCopied.{leads-inserted, rests-stays}
use Rattle.scc_calls.proofs.Runs.{stays-same}
use Rattle.scc_calls.specs.States.{State, ResizesTo, run_setting, run_setting_by, state_of}
use Rattle.scc_calls.proofs.map_copied.insert.Goals as goal

pub returns-in-Ok : goal.returns-in-Ok
returns-in-Ok g c =
    record {
      setting = (search rules);
      ok = (leads-inserted g.K.PartialEq.eq g.V.Clone.is_clone c.args.map.now c.args.k c.insert_sync.new.self c.args.v c.in-Ok.ensures.step.0 c.in-Ok.ensures.step.1);
      copies = (search rules);
      err = (search rules);
      refused = (search rules);
    }

pub returns-in-Err-Exists : goal.returns-in-Err-Exists
returns-in-Err-Exists g c =
    let m = c.args.map.now in
    let hash : g.row.K.Denot → ℕ = key_hash g.H.BuildHasher g.H.Hasher.Hasher g.K.Hash.hash_input m in
    let step = subst (λ (e : InsertError g.row.K.Denot g.row.V.Denot). Inserts g.K.PartialEq.eq hash m (c.args.k, c.args.v) (Err e) c.insert_sync.new.self) c.in-Err-Exists.field-0-is c.in-Err-Exists.ensures.step in
    record {
      setting = ap run_setting_by step.2.settings;
      ok = (search rules);
      copies = (search rules);
      err = rests-stays m c.insert_sync.new.self (inl record { exact = step.2.exact; buckets = step.2.buckets; settings = step.2.settings });
      refused = inr (
        refl,
        (
          state_of m,
          stays-same (λ (s : State (g.row.K.Denot × g.row.V.Denot)). s.1) (ResizesTo (run_setting m)) (state_of m),
          rw step.1 (subst (λ (q : g.row.K.Denot × g.row.V.Denot). g.K.Clone.is_infallible q.0 × g.V.Clone.is_infallible q.1 → ⊥) step.0 c.in-Err.ensures.refused),
        ),
      );
    }
