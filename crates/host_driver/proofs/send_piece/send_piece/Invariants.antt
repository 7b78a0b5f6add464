use Rattle.host_driver.proofs.send_piece.send_piece.Given as goal

-- the download began with what its port tells now
abbrev pub ghosts-send_since : goal.ghosts-send_since
ghosts-send_since g a = record { before = g.P.Port.told a.parts.port }
