use Rattle.host_driver.proofs.tables.send_bytes.Given as goal

-- the download began with what its port tells now
abbrev pub ghosts-send_bytes_since : goal.ghosts-send_bytes_since
ghosts-send_bytes_since g a = record { before = g.P.Port.told a.parts.port }
