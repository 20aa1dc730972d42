use Rattle.cell_laws.proofs.Keeping.{runs_have_room, runs_have_serials, runs_make_few_objects}
use Rattle.cell_laws.proofs.laws.runs_have_room.Goals as goal

pub returns-clause-objects : goal.returns-clause-objects
returns-clause-objects c = runs_make_few_objects

pub returns-clause-room : goal.returns-clause-room
returns-clause-room c = runs_have_room

pub returns-clause-serials : goal.returns-clause-serials
returns-clause-serials c = runs_have_serials
