use Rattle.store_run.proofs.command.run_store.Goals as goal

pub returns-clause-ran : goal.returns-clause-ran
returns-clause-ran g c =
    record { new = c.run_script-status.new.core; disk_is = c.into_disk.ensures; lawful = c.stands.ensures.lawful; script = c.run_script-status.ensures.ran }
