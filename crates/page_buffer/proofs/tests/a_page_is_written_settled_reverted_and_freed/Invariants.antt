use Rattle.page_buffer.proofs.tests.a_page_is_written_settled_reverted_and_freed.Given as goal

abbrev pub ghosts-through_its_states : goal.ghosts-through_its_states
ghosts-through_its_states g a = record { name = a.blank.name; parts = a.blank.parts }
