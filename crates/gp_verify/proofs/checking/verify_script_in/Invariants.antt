-- the new ledger is the one whose name the chassis and its licences have
use Rattle.gp_verify.proofs.checking.verify_script_in.Given as goal

abbrev pub ghosts-verify_on : goal.ghosts-verify_on
ghosts-verify_on g a = record { name = a.blank.name; parts = 4064 }
