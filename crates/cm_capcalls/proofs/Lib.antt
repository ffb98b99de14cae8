mod AmbientSets
