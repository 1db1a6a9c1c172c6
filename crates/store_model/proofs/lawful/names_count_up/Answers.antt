use Rattle.store_model.proofs.lawful.names_count_up.Goals as goal

pub returns : goal.returns
returns c = λ w page slot lawful. lawful.orderly.counted page slot
