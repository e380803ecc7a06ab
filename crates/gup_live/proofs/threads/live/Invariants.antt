use Rattle.gup_live.proofs.threads.live.Given as goal

abbrev pub ghosts-live_as : goal.ghosts-live_as
ghosts-live_as g a = record { script = a.script.now }
